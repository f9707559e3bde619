use Rattle.std.proofs.Common.{All, take}
use Rattle.proto_names_affected.specs.Marking.{MarksStay}
use Rattle.proto_desc_affected.specs.Common.{IsEnumMarked}
use Rattle.proto_desc_affected.proofs.marks.mark_enums.Given as goal

abbrev pub invariant-loop-one : goal.invariant-loop-one
invariant-loop-one l = record {
  stay : MarksStay l.initial.wanted l.wanted;
  marked : All (IsEnumMarked l.link l.wanted) (take l.one-index l.meant);
}
