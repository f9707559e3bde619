use Rattle.std.proofs.Common.{All, map, take}
use Rattle.proto_names_affected.specs.Marking.{IsBeginnerMarked, MarksStay}
use Rattle.proto_names_affected.proofs.marking.mark_beginners_of.Given as goal

abbrev pub invariant-loop-file : goal.invariant-loop-file
invariant-loop-file l = record {
  stay : MarksStay l.initial.marks l.marks;
  marked : All (IsBeginnerMarked l.marks (map (λ v. v.items) l.meant) l.key) (take l.file-index l.file-items);
}
