use Rattle.std.proofs.Common.{◌≡◌, take, map}
use Rattle.proto_desc_checks.proofs.enums.value_names.Given as goal

abbrev pub invariant-loop-value : goal.invariant-loop-value
invariant-loop-value l = l.names.items ≡ map (λ v. v.name) (map (λ v. v.now) (take l.value-index l.values))
