use Rattle.std.proofs.Common.{map, ap, ◌∙◌}
use Rattle.clap.specs.Words.{rule_of}
use Rattle.protoref_arguments.specs.Program.{rule_of_row}
use Rattle.protoref_arguments.proofs.Building.{table_step}
use Rattle.protoref_arguments.proofs.commands.arguments_of.Goals as goal

pub loop-argument-preserved : goal.loop-argument-preserved
loop-argument-preserved c =
    ap (map rule_of) (c.in_ok-push.ensures.items) ∙ table_step rule_of rule_of_row c.loop-argument.arguments.items c.argument_of.result c.args.rows.now c.loop-argument.argument-index _
    c.loop-argument.invariant c.loop-argument-test.true c.argument_of.ensures
