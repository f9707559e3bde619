use Rattle.std.proofs.Common.{All, take, nat_eq}
use Rattle.indexmap.specs.IndexMap.{get}
use Rattle.proto_names_affected.specs.Marking.{MarksStay}
use Rattle.proto_desc_affected.specs.Common.{IsUserMarked, file_summaries_of}
use Rattle.proto_desc_affected.proofs.marks.mark_users_of_name.Given as goal

abbrev pub invariant-loop-user : goal.invariant-loop-user
invariant-loop-user l = record {
  stay : MarksStay l.initial.marks l.marks;
  marked : All (IsUserMarked l.link (file_summaries_of l.kept.files.now) (get nat_eq l.kept.still.now) l.marks l.name.row) (take l.user-index l.user-items);
}
