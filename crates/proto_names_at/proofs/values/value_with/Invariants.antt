use Rattle.std.proofs.Common.{◌≡◌, map, drop, find, bytes_eq}
use Rattle.proto_text.specs.Texts.{word_at}
use Rattle.proto_names_at.proofs.values.value_with.Given as goal

abbrev pub invariant-loop-value : goal.invariant-loop-value
invariant-loop-value l = find (λ v. bytes_eq (word_at l.words v.name) l.word) (map (λ v. v.now) l.values) ≡ find (λ v. bytes_eq (word_at l.words v.name) l.word) (map (λ v. v.now) (drop l.value-index l.values))
