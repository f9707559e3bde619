use Rattle.std.proofs.Common.{ℕ, ◌<◌, List, get_or, map, nat_eq}
use Rattle.indexmap.specs.IndexMap.{get}
use Rattle.proto_files.proofs.Common.{FileOf}
use Rattle.proto_desc_affected.specs.Checked.{IsMeantStill, FileSummaryOf, TypeUseOf}
use Rattle.proto_names_affected.specs.Marking.{ArePlacesMarked}
use Rattle.proto_names.specs.Linking.{Meant}
use Rattle.proto_desc_affected.specs.Common.{AreStillEnums, file_summary_of, type_use_of}
use Rattle.proto_desc_affected.proofs.marks.are_meant_still.Given as goal

abbrev pub invariant-loop-k : goal.invariant-loop-k
invariant-loop-k l =
    (places : List ℕ) → ArePlacesMarked l.edited places → (files : List FileOf) (ks : List FileSummaryOf) → AreStillEnums files l.link ks (get nat_eq l.still) → (j : ℕ) → j < l.k
    → (k : TypeUseOf) (m : Meant) → IsMeantStill places files l.link ks (file_summary_of l.kept) (get_or (map type_use_of l.kept.means.items) j k) (get_or l.meant j m)
