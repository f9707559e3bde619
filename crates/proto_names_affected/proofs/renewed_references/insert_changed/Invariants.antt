use Rattle.std.proofs.Common.{All, take}
use Rattle.proto_names_affected.specs.Marking.{IsMarked, MarksStay}
use Rattle.proto_names_affected.proofs.renewed_references.insert_changed.Given as goal

abbrev pub invariant-loop-change : goal.invariant-loop-change
invariant-loop-change l = record {
  stay : MarksStay l.initial.files l.files;
  changed : All (λ c. IsMarked l.files c.place) (take l.change-index l.old);
}
