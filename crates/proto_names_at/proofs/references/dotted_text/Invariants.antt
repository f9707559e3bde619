use Rattle.std.proofs.Common.{◌≡◌, ◌++◌, map, drop, string_bytes}
use Rattle.proto_text.specs.Texts.{word_at}
use Rattle.proto_edit_rules.specs.Rename.{dotted_text}
use Rattle.proto_names_at.proofs.references.dotted_text.Given as goal

abbrev pub invariant-loop-word : goal.invariant-loop-word
invariant-loop-word l = string_bytes l.text ++ dotted_text (map (λ b. word_at l.words b.item) (drop l.word-index l.behind)) ≡ dotted_text (map (λ b. word_at l.words b.item) l.behind)
