use Rattle.std.proofs.Common.{◌≡◌, ℕ, ◌<◌, true, false, [], get_or}
use Rattle.proto_names_affected.specs.Marking.{IsMarked, MarksStay}
use Rattle.proto_names.proofs.updated_imports.mark_who_sees.Given as goal

abbrev pub invariant-loop-file : goal.invariant-loop-file
invariant-loop-file l = record {
  stay : MarksStay l.initial.marks l.marks;
  marked : (file : ℕ) → file < l.file → get_or (get_or l.seen file []) l.place false ≡ true → IsMarked l.marks file;
}
