use Rattle.std.proofs.Common.{ℕ, All, map, take}
use Rattle.proto_names_affected.specs.Marking.{IsBeginnerMarked, MarksStay}
use Rattle.proto_names_affected.proofs.marking.mark_beginners.Given as goal

abbrev pub invariant-loop-key : goal.invariant-loop-key
invariant-loop-key l = record {
  stay : MarksStay l.initial.marks l.marks;
  marked : All (λ key. (file : ℕ) → IsBeginnerMarked l.marks (map (λ v. v.items) l.meant) key file) (take l.key-index l.keys.keys);
}
