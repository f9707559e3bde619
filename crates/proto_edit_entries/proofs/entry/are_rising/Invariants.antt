use Rattle.std.proofs.Common.{map, length}
use Rattle.proto_edit_entries.specs.Entries.{change_of, AreRising}
use Rattle.proto_edit_entries.proofs.entry.are_rising.Given as goal

abbrev pub invariant-loop-change : goal.invariant-loop-change
invariant-loop-change l = record {
  forth : AreRising (map change_of l.left) → AreRising (map change_of l.changes);
  back : AreRising (map change_of l.changes) → AreRising (map change_of l.left);
}

abbrev pub decreases-loop-change : goal.decreases-loop-change
decreases-loop-change l = length l.left
