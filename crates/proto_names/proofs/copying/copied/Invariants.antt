use Rattle.std.proofs.Common.{◌≡◌, map, take}
use Rattle.proto_names.proofs.copying.copied.Given as goal

abbrev pub invariant-loop-list : goal.invariant-loop-list
invariant-loop-list g l = map (λ v. v.items) l.copy.items ≡ map (λ v. v.items) (take l.list-index l.lists)
