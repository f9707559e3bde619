use Rattle.std.proofs.Common.{◌≡◌, map, string_bytes, take}
use Rattle.proto_desc_affected.proofs.file_summary.copies.Given as goal

abbrev pub invariant-loop-text : goal.invariant-loop-text
invariant-loop-text l = map string_bytes l.all.items ≡ map (λ text. text.now) (take l.text-index l.texts)
