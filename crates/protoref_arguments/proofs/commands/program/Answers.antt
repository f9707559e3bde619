use Rattle.std.proofs.Common.{◌≡◌, ◌∙◌, map, ap, List}
use Rattle.clap.specs.Words.{App, Shape, app_of, shape_of}
use Rattle.protoref_arguments.specs.Program.{program}
use Rattle.protoref_arguments.proofs.Building.{are_plain, subs_added, with_subs}
use Rattle.protoref_arguments.proofs.commands.program.Goals as goal

pub returns : goal.returns
returns c =
    let are : map shape_of c.in_ok-commands.commands.items ≡ program.subs = c.in_ok-commands.ensures in
    let added = subs_added c.in_ok-alone.alone c.in_ok-subcommands.field-0 c.in_ok-commands.commands.items c.in_ok-subcommands.ensures (ap are_plain are) in
    added
    ∙ ap (λ (ss : List Shape). with_subs (app_of c.in_ok-alone.alone) ss) are
    ∙ ap (λ (a : App). with_subs a program.subs) c.in_ok-alone.ensures
