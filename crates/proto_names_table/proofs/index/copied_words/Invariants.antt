use Rattle.std.proofs.Common.{◌≡◌, map, take, string_bytes}
use Rattle.proto_names_table.proofs.index.copied_words.Given as goal

abbrev pub invariant-loop-word : goal.invariant-loop-word
invariant-loop-word l = map string_bytes l.copy.keys ≡ map string_bytes (take l.word-index l.texts)
