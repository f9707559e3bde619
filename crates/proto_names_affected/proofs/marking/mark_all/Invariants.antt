use Rattle.std.proofs.Common.{take}
use Rattle.proto_names_affected.specs.Marking.{AreReferencesMarked, MarksStay}
use Rattle.proto_names_affected.proofs.marking.mark_all.Given as goal

abbrev pub invariant-loop-reference : goal.invariant-loop-reference
invariant-loop-reference l = record {
  stay : MarksStay l.initial.marks l.marks;
  marked : AreReferencesMarked l.marks (take l.reference-index l.references);
}
