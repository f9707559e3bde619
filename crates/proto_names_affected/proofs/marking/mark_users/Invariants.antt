use Rattle.std.proofs.Common.{map, take}
use Rattle.proto_names_affected.specs.Marking.{AreUsersMarked, MarksStay}
use Rattle.proto_names_affected.proofs.marking.mark_users.Given as goal

abbrev pub invariant-loop-row : goal.invariant-loop-row
invariant-loop-row l = record {
  stay : MarksStay l.initial.marks l.marks;
  marked : AreUsersMarked l.marks (map (λ v. v.items) l.references) (take l.row-index l.rows);
}
