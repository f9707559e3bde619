use Rattle.std.proofs.Common.{◌≡◌, ◌∙◌, map, ap, true, List}
use Rattle.clap.specs.Words.{App, Rule, app_of, rule_of}
use Rattle.protoref_arguments.specs.Program.{rule_of_row}
use Rattle.protoref_arguments.proofs.Building.{are_simple, args_added, rows_simple, with_rules}
use Rattle.protoref_arguments.proofs.commands.command_of.Goals as goal

pub returns : goal.returns
returns c =
    let rows = c.args.words.now.arguments.now in
    let are : map rule_of c.in_ok-arguments.arguments.items ≡ map rule_of_row rows = c.in_ok-arguments.ensures in
    let simple : are_simple (map rule_of c.in_ok-arguments.arguments.items) ≡ true = ap are_simple are ∙ rows_simple rows in
    let added = args_added c.command_alone.result c.in_ok-args.field-0 c.in_ok-arguments.arguments.items c.in_ok-args.ensures simple in
    ap (λ (a : App). a.top) (added
    ∙ ap (λ (rs : List Rule). with_rules (app_of c.command_alone.result) rs) are
    ∙ ap (λ (a : App). with_rules a (map rule_of_row rows)) c.command_alone.ensures)
