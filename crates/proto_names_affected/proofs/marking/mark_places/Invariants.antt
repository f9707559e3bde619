use Rattle.std.proofs.Common.{take}
use Rattle.proto_names_affected.specs.Marking.{ArePlacesMarked, MarksStay}
use Rattle.proto_names_affected.proofs.marking.mark_places.Given as goal

abbrev pub invariant-loop-place : goal.invariant-loop-place
invariant-loop-place l = record {
  stay : MarksStay l.initial.marks l.marks;
  marked : ArePlacesMarked l.marks (take l.place-index l.places);
}
