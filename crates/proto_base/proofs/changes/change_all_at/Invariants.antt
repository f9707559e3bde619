use Rattle.std.proofs.Common.{◌≡◌, length, take}
use Rattle.proto_base.specs.Undone.{undone, with_values, AreWithin}
use Rattle.proto_base.proofs.changes.change_all_at.Given as goal

abbrev pub invariant-loop-value : goal.invariant-loop-value
invariant-loop-value g l = record {
  next : l.next ≡ length l.yielded;
  undone : undone l.log.items l.items.items ≡ undone l.initial.log.items l.initial.items.items;
  len : length l.items.items ≡ length l.initial.items.items;
  within : AreWithin (length l.initial.items.items) l.initial.log.items → AreWithin (length l.initial.items.items) l.log.items;
  items : l.items.items ≡ with_values l.initial.items.items (take l.next l.places) l.yielded;
}
