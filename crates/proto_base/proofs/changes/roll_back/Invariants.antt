use Rattle.std.proofs.Common.{◌≡◌, length}
use Rattle.proto_base.specs.Undone.{undone, AreWithin}
use Rattle.proto_base.proofs.changes.roll_back.Given as goal

abbrev pub invariant-loop-change : goal.invariant-loop-change
invariant-loop-change g l = record {
  undone : undone l.log.items l.items.items ≡ undone l.initial.log.items l.initial.items.items;
  len : length l.items.items ≡ length l.initial.items.items;
  within : AreWithin (length l.initial.items.items) l.log.items;
}

abbrev pub decreases-loop-change : goal.decreases-loop-change
decreases-loop-change g l = goal.left-loop-change g l
