use Rattle.std.proofs.Common.{◌≡◌, false, map, take, string_bytes}
use Rattle.clap.specs.Walk.{texts}
use Rattle.protoref_arguments.specs.Marked.{begins_dashed, words_marked}
use Rattle.protoref_arguments.proofs.command_line.marked_words.Given as goal

abbrev pub invariant-loop-index : goal.invariant-loop-index
invariant-loop-index l = record {
  handed : texts l.marked.items ≡ words_marked (map string_bytes (take l.index l.words));
  plain : begins_dashed (map string_bytes (take l.index l.words)) ≡ false;
}
