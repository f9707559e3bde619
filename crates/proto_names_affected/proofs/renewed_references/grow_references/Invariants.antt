use Rattle.std.proofs.Common.{◌≡◌, ◌≤◌, length, max}
use Rattle.proto_names_affected.specs.Renewed.{AreGrown}
use Rattle.proto_names_affected.proofs.renewed_references.grow_references.Given as goal

abbrev pub invariant-loop : goal.invariant-loop
invariant-loop l = record {
  grown : AreGrown l.initial.references.items l.references.items;
  len : length l.references.items ≡ l.counter;
  upper : l.counter ≤ max (length l.initial.references.items) l.count;
}
