use Rattle.std.proofs.Common.{ℕ, ◌<◌, IfSome, [], get_or, slice_get, nat_eq}
use Rattle.indexmap.specs.IndexMap.{get}
use Rattle.proto_names_affected.specs.Marking.{MarksStay}
use Rattle.proto_desc_affected.specs.Common.{AreUsersMarked, file_summaries_of}
use Rattle.proto_desc_affected.proofs.marks.mark_users_of_file.Given as goal

abbrev pub invariant-loop-place : goal.invariant-loop-place
invariant-loop-place l = record {
  stay : MarksStay l.initial.marks l.marks;
  marked : (k : ℕ) → k < l.place → IfSome (slice_get (get_or l.link.rows l.file []) k) (AreUsersMarked l.link (file_summaries_of l.kept.files.now) (get nat_eq l.kept.still.now) l.marks);
}
