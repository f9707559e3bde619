use Rattle.std.proofs.Common.{◌≡◌, map, take}
use Rattle.clap.specs.Words.{rule_of}
use Rattle.protoref_arguments.specs.Program.{rule_of_row}
use Rattle.protoref_arguments.proofs.commands.arguments_of.Given as goal

abbrev pub invariant-loop-argument : goal.invariant-loop-argument
invariant-loop-argument l = map rule_of l.arguments.items ≡ map rule_of_row (take l.argument-index l.rows)
