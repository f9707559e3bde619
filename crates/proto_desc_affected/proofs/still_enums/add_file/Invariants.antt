use Rattle.std.proofs.Common.{nat_eq}
use Rattle.indexmap.specs.IndexMap.{get}
use Rattle.proto_desc_affected.specs.Common.{AreStillEnums, file_summaries_of}
use Rattle.proto_desc_affected.proofs.still_enums.add_file.Given as goal

abbrev pub invariant-loop-current : goal.invariant-loop-current
invariant-loop-current l = AreStillEnums l.linked.files l.linked.link (file_summaries_of l.kept) (get nat_eq l.initial.still) → AreStillEnums l.linked.files l.linked.link (file_summaries_of l.kept) (get nat_eq l.still)
