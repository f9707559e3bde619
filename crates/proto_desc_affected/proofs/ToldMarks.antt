-- Marks of the files that refer to names of edited files: what is marked stays so, and then all
-- others are unaffected.
use Rattle.std.proofs.Common.{◌≡◌, ◌⊎◌, ◌||◌, ℕ, ◌<◌, Bool, true, false, not, List, [], length, get_or, Option, refl, sym, ◌∙◌, inl, inr, arith, All}
use Rattle.std.proofs.lemmas.List.Elements.{All-weaker}
use Rattle.proto_base.proofs.Common.{All-contains, false_from_ne_true, false≢true, or_parts}
use Rattle.std.proofs.lemmas.Bool.{not-false}
use Rattle.proto_files.proofs.Common.{AreRead, FileOf, ReadOf}
use Rattle.proto_desc_affected.specs.Checked.{IsEnumAtRow, IsListed, IsSettled, FileSummaryOf, LinksListReferences, MarksTellKept, kept_by_link, nothing_kept}
use Rattle.proto_names_affected.specs.Marking.{MarksStay}
use Rattle.proto_names.specs.LinkOfFiles.{IsLinkOf}
use Rattle.proto_names.specs.Linking.{LinkOf, Meant, RefId}
use Rattle.proto_names.specs.Referring.{word_key}
use Rattle.proto_desc_affected.specs.Common.{AreOthersKeptAsTold, AreStillEnums, AreUnsureKept, AreUsersMarked, AreUsersOfFilesMarked, IsUserMarked, counts_to, is_still_to}
use Rattle.proto_desc_affected.proofs.StillEnums.{still_row}

-- ---- what is marked stays so

module _ (l : LinkOf) (ks : List FileSummaryOf) (still : ℕ → Option Bool) (old new : List Bool) (stay : MarksStay old new) where
  pub users_stay : (row : ℕ) (rs : List RefId) → All (IsUserMarked l ks still old row) rs → All (IsUserMarked l ks still new row) rs
  users_stay row = All-weaker (IsUserMarked l ks still old row) (IsUserMarked l ks still new row) (λ r h counts within. stay.set r.file (h counts (omega (arith, within, stay.count))))

  pub name_stays : (row : ℕ) → AreUsersMarked l ks still old row → AreUsersMarked l ks still new row
  name_stays row = users_stay row (get_or l.references row [])

  pub files_stay : (places : List ℕ) → AreUsersOfFilesMarked places l ks still old → AreUsersOfFilesMarked places l ks still new
  files_stay = All-weaker (λ (file : ℕ). All (AreUsersMarked l ks still old) (get_or l.rows file [])) (λ (file : ℕ). All (AreUsersMarked l ks still new) (get_or l.rows file []))
      (λ file. All-weaker (AreUsersMarked l ks still old) (AreUsersMarked l ks still new) name_stays (get_or l.rows file []))

-- ---- so each reference of another file is settled

module _ (lists : LinksListReferences) (places : List ℕ) (files : List FileOf) (l : LinkOf) (link : IsLinkOf files l) (ks : List FileSummaryOf) (still : ℕ → Option Bool) (enums : AreStillEnums files l ks still) (marks : List Bool) (len : length marks ≡ length files) (users : AreUsersOfFilesMarked places l ks still marks)
    (reads : List ReadOf) (are : AreRead files reads) (file : ℕ) (within : file < length files) (off : get_or marks file false ≡ false) where
  settled : All (IsSettled places files l ks (get_or ks file nothing_kept)) (get_or l.meant file [])
  settled k d n = by (counts_to l ks still m.row file) refl
    where
      m : Meant
      m = get_or (get_or l.meant file []) k d

      listed : IsListed l file m
      listed = lists files l link reads are file within k d n

      as_kept : Bool
      as_kept = is_still_to (get_or ks file nothing_kept).is_proto3 (still m.row)

      one_of : (b : Bool) → (kept_by_link l m).is_message ≡ b → (b || as_kept) ≡ true → ((kept_by_link l m).is_message ≡ true) ⊎ IsEnumAtRow files l ks (get_or ks file nothing_kept).is_proto3 m.row
      one_of true is h = inl is
      one_of false is h = inr (still_row files l ks still enums (get_or ks file nothing_kept).is_proto3 m.row h)

      by : (b : Bool) → counts_to l ks still m.row file ≡ b → IsSettled places files l ks (get_or ks file nothing_kept) m
      by true counts = inl (λ own is there.
          (let users_of = All-contains (λ (g : ℕ). All (AreUsersMarked l ks still marks) (get_or l.rows g [])) places own users there in
          let marked = All-contains (AreUsersMarked l ks still marks) (get_or l.rows own []) m.row users_of (listed.name own is) in
          let one = All-contains (IsUserMarked l ks still marks m.row) (get_or l.references m.row []) (record { file = file; token = m.token }) marked listed.reference in
          false≢true (sym off ∙ one counts (omega (arith, within, len)))))
      by false free =
          let parts = or_parts (not ((kept_by_link l m).is_message || as_kept)) (get_or ks file nothing_kept).has_extend free in
          inr (parts.1, one_of (kept_by_link l m).is_message refl (not-false ((kept_by_link l m).is_message || as_kept) parts.0))

pub told_others : MarksTellKept → LinksListReferences → (places : List ℕ) (files : List FileOf) (l : LinkOf) → IsLinkOf files l → (ks : List FileSummaryOf) (still : ℕ → Option Bool) → AreStillEnums files l ks still → (told unsure marks : List Bool) → length told ≡ length files → MarksStay told unsure → AreUsersOfFilesMarked places l ks still unsure → AreUnsureKept places files l ks unsure marks → AreOthersKeptAsTold places files l ks told marks
told_others tell lists places files l link ks still enums told unsure marks len stay users asked before was reads sound clean kept look file within off = elim (asked file within off) [
  | inr stays ↦ stays
  | inl sure ↦
      (let unmarked : get_or told file false ≡ false = false_from_ne_true (get_or told file false) (λ on. false≢true (sym sure ∙ stay.set file on)) in
      tell word_key places before was files reads told sound clean look ks kept l link file within unmarked
      (settled lists places files l link ks still enums unsure (stay.count ∙ len) users reads sound.edited.are_read file within sure))
]
