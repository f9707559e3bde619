use Rattle.std.proofs.Common.{nat_eq}
use Rattle.indexmap.specs.IndexMap.{get}
use Rattle.proto_desc_affected.specs.Common.{AreStillEnums, file_summaries_of}
use Rattle.proto_desc_affected.proofs.still_enums.still_enums.Given as goal

abbrev pub invariant-loop-place : goal.invariant-loop-place
invariant-loop-place l = AreStillEnums l.linked.files l.linked.link (file_summaries_of l.kept) (get nat_eq l.still)
