use Rattle.std.proofs.Common.{◌≡◌, length, map}
use Rattle.proto_base.specs.Undone.{AreWithin, undone}
use Rattle.proto_names_affected.proofs.Renewing.{AreRenewedTo}
use Rattle.proto_names_affected.proofs.renewed_references.renew_listed.Given as goal

abbrev pub invariant-loop-k : goal.invariant-loop-k
invariant-loop-k l = record {
  undone : undone l.log.items l.references.items ≡ undone l.initial.log.items l.initial.references.items;
  len : length l.references.items ≡ length l.initial.references.items;
  within : AreWithin (length l.initial.references.items) l.initial.log.items → AreWithin (length l.initial.references.items) l.log.items;
  renewed : AreRenewedTo l.k l.marks l.rows (map (λ v. v.items) l.lists) (map (λ v. v.items) l.initial.references.items) (map (λ v. v.items) l.references.items);
}
