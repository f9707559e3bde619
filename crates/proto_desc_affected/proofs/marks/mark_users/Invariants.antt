use Rattle.std.proofs.Common.{take, nat_eq}
use Rattle.indexmap.specs.IndexMap.{get}
use Rattle.proto_names_affected.specs.Marking.{MarksStay}
use Rattle.proto_desc_affected.specs.Common.{AreUsersOfFilesMarked, file_summaries_of}
use Rattle.proto_desc_affected.proofs.marks.mark_users.Given as goal

abbrev pub invariant-loop-place : goal.invariant-loop-place
invariant-loop-place l = record {
  stay : MarksStay l.initial.marks l.marks;
  marked : AreUsersOfFilesMarked (take l.place-index l.places) l.link (file_summaries_of l.kept.files.now) (get nat_eq l.kept.still.now) l.marks;
}
