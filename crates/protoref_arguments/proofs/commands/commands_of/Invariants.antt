use Rattle.std.proofs.Common.{◌≡◌, map, take}
use Rattle.clap.specs.Words.{shape_of}
use Rattle.protoref_arguments.specs.Program.{shape_of_words}
use Rattle.protoref_arguments.proofs.commands.commands_of.Given as goal

abbrev pub invariant-loop-words : goal.invariant-loop-words
invariant-loop-words l = map shape_of l.commands.items ≡ map shape_of_words (take l.words-index l.table)
