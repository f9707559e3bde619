use Rattle.std.proofs.Common.{◌≡◌, length, map}
use Rattle.proto_desc.specs.NewTexts.{given_text, texts_at}
use Rattle.proto_desc.proofs.new_texts.texts_at.Given as goal

abbrev pub invariant-loop-bytes : goal.invariant-loop-bytes
invariant-loop-bytes l = record {
  len : length l.given.items ≡ length l.yielded;
  same : map given_text l.given.items ≡ texts_at l.places (map (λ t. t.items) l.yielded);
}
