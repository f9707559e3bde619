use Rattle.std.proofs.Common.{◌≡◌, map, take}
use Rattle.proto_names_imports.proofs.import.all_targets.Given as goal

abbrev pub invariant-loop-own : goal.invariant-loop-own
invariant-loop-own l = map (λ v. v.items) l.next.items ≡ map (λ v. map (λ i. i.to) v.items) (take l.own-index l.imports)
