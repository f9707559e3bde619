use Rattle.std.proofs.Common.{◌≡◌, map, take}
use Rattle.proto_text.specs.Texts.{word_at}
use Rattle.proto_resolved.proofs.enum_table.names.Given as goal

abbrev pub invariant-loop-value : goal.invariant-loop-value
invariant-loop-value l = map (λ n. n.now) l.names.items ≡ map (λ v. word_at l.words v.name) (map (λ v. v.now) (take l.value-index l.values))
