-- Marks of what changed are so still where more files are marked.
use Rattle.std.proofs.Common.{◌≡◌, ℕ, Bool, List, [], get_or, subst, inl, inr}
use Rattle.proto_base.proofs.Common.{All-weaker}
use Rattle.proto_names_table.specs.declared.ids.RefId.{RefId}
use Rattle.proto_names_affected.specs.ChangedFiles.{AreChangesMarked, IsChangeMarked, StaysOrIsMarked, WasOrIsMarked}
use Rattle.proto_names_affected.specs.Marking.{AreReferencesMarked, IsMarked, MarksStay}
use Rattle.proto_names_affected.specs.declared.kind_rows.KindRow.{KindRow}
use Rattle.proto_names.specs.Common.{Meant}
use Rattle.proto_names_table.specs.declared.table.Table.{Table}

module _ (t : Table) (marks more : List Bool) (stay : MarksStay marks more) (references : List (List RefId)) (meant : List (List Meant)) where
  users : (rs : List RefId) → AreReferencesMarked marks rs → AreReferencesMarked more rs
  users rs h = All-weaker (λ (r : RefId). IsMarked marks r.file) (λ (r : RefId). IsMarked more r.file) (λ r m. stay.set r.file m) rs h

  stays : (now : List KindRow) (p : KindRow) → StaysOrIsMarked marks references now p → StaysOrIsMarked more references now p
  stays now p (inl c) = inl c
  stays now p (inr m) = inr (users (get_or references p.row []) m)

  was : (before : List KindRow) (p : KindRow) → WasOrIsMarked t marks meant before p → WasOrIsMarked t more meant before p
  was before p (inl c) = inl c
  was before p (inr begin) = inr (λ top front word plain name file m there key. stay.set file (begin top front word plain name file m there key))

  change : (before now : List KindRow) → IsChangeMarked t marks references meant before now → IsChangeMarked t more references meant before now
  change before now is = record {
    gone = All-weaker (StaysOrIsMarked marks references now) (StaysOrIsMarked more references now) (stays now) before is.gone;
    came = All-weaker (WasOrIsMarked t marks meant before) (WasOrIsMarked t more meant before) (was before) now is.came;
  }

  changes_stay_marked : (places : List ℕ) (before now : List (List KindRow)) → AreChangesMarked t marks places references meant before now → AreChangesMarked t more places references meant before now
  changes_stay_marked places before now is = record {
    edited = All-weaker (IsMarked marks) (IsMarked more) stay.set places is.edited;
    each = λ k l. change (get_or before k []) (get_or now k []) (is.each k l);
  }

-- so it is of the lists that were handed on
pub marks_of_lists : (t : Table) (marks more : List Bool) → MarksStay marks more → (places : List ℕ) (before : List (List KindRow))
    → {given references : List (List RefId)} → given ≡ references → {given_meant meant : List (List Meant)} → given_meant ≡ meant → {given_now now : List (List KindRow)} → given_now ≡ now
    → AreChangesMarked t marks places given given_meant before given_now → AreChangesMarked t more places references meant before now
marks_of_lists t marks more stay places before {given} {references} r {given_meant} {meant} m {given_now} {now} n is =
    changes_stay_marked t marks more stay references meant places before now
    (subst (λ (ns : List (List KindRow)). AreChangesMarked t marks places references meant before ns) n
    (subst (λ (ms : List (List Meant)). AreChangesMarked t marks places references ms before given_now) m
    (subst (λ (rs : List (List RefId)). AreChangesMarked t marks places rs given_meant before given_now) r is)))
