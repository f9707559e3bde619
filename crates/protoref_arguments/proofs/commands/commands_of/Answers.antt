use Rattle.std.proofs.Common.{map, ap, ◌∙◌}
use Rattle.clap.specs.Words.{shape_of}
use Rattle.protoref_arguments.specs.Program.{shape_of_words}
use Rattle.protoref_arguments.proofs.Building.{table_step}
use Rattle.protoref_arguments.proofs.commands.commands_of.Goals as goal

pub loop-words-preserved : goal.loop-words-preserved
loop-words-preserved c =
    ap (map shape_of) (c.in_ok-push.ensures.items) ∙ table_step shape_of shape_of_words c.loop-words.commands.items c.in_ok-command_of.field-0 c.args.table.now c.loop-words.words-index _
    c.loop-words.invariant c.loop-words-test.true c.in_ok-command_of.ensures
