use Rattle.std.proofs.Common.{◌≡◌, map, drop}
use Rattle.proto_edit_rename.specs.Members.{has_value}
use Rattle.proto_edit_rename.proofs.members.has_value.Given as goal

abbrev pub invariant-loop-value : goal.invariant-loop-value
invariant-loop-value l = has_value l.token (map (λ v. v.now) l.values) ≡ has_value l.token (map (λ v. v.now) (drop l.value-index l.values))
