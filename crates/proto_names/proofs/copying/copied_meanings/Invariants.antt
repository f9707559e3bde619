use Rattle.std.proofs.Common.{◌≡◌, map, take}
use Rattle.proto_names.proofs.copying.copied_meanings.Given as goal

abbrev pub invariant-loop-own : goal.invariant-loop-own
invariant-loop-own l = map (λ v. v.items) l.copy.items ≡ map (λ v. v.items) (take l.own-index l.meanings)
