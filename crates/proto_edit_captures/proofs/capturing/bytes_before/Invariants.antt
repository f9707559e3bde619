use Rattle.std.proofs.Common.{◌≡◌, map, drop}
use Rattle.proto_text.specs.Texts.{word_at}
use Rattle.proto_edit_captures.specs.Capturing.{bytes_before}
use Rattle.proto_edit_captures.proofs.capturing.bytes_before.Given as goal

abbrev pub invariant-loop-word : goal.invariant-loop-word
invariant-loop-word l = bytes_before l.fn.len (map (λ b. word_at l.words b.item) l.behind) ≡ bytes_before l.left (map (λ b. word_at l.words b.item) (drop l.word-index l.behind))
