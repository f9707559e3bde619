use Rattle.std.proofs.Common.{◌≡◌, map, string_bytes, take}
use Rattle.proto_desc_affected.proofs.file_summary.copy_texts.Given as goal

abbrev pub invariant-loop-text : goal.invariant-loop-text
invariant-loop-text l = map string_bytes l.copy.items ≡ map string_bytes (take l.text-index l.texts)
