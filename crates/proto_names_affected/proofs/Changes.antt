-- What is marked for what a file declared and declares.
use Rattle.std.proofs.Common.{◌≡◌, ℕ, ◌<◌, Bool, not, List, [], ◌∷◌, get_or, map, ap, subst, inl, inr, All, filter}
use Rattle.std.specs.List.{Contains}
use Rattle.std.proofs.lemmas.List.Elements.{All-contains, All-map, All-weaker, Contains-get_or}
use Rattle.proto_base.proofs.Common.{contains_cases, contains_filter}
use Rattle.proto_base.specs.Words.{word_key}
use Rattle.proto_names_table.specs.declared.ids.Meant.{Meant}
use Rattle.proto_names_table.specs.declared.ids.RefId.{RefId}
use Rattle.proto_names_affected.specs.ChangedFiles.{IsChangeMarked, StaysOrIsMarked, WasOrIsMarked}
use Rattle.proto_names_affected.specs.Marking.{AreBeginnersMarked, AreReferencesMarked, AreUsersMarked, IsMarked, MarksStay}
use Rattle.proto_names_affected.specs.KindRows.{AreAmongOr, HasLastWords, is_below_type}
use Rattle.proto_names_affected.specs.declared.kind_rows.KindRow.{KindRow}
use Rattle.proto_names_affected.proofs.Marks.{nothing_there}
use Rattle.proto_names_table.specs.declared.table.Table.{Table}

-- ---- marks that are set stay set

references_stay : (a b : List Bool) (rs : List RefId) → MarksStay a b → AreReferencesMarked a rs → AreReferencesMarked b rs
references_stay a b rs stay h = All-weaker (λ (r : RefId). IsMarked a r.file) (λ (r : RefId). IsMarked b r.file) (λ r it. stay.set r.file it) rs h

beginners_stay : (a b : List Bool) (meant : List (List Meant)) (keys : List ℕ) → MarksStay a b → AreBeginnersMarked a meant keys → AreBeginnersMarked b meant keys
beginners_stay a b meant keys stay h = λ file m there key. stay.set file (h file m there key)

pub users_stay : (a b : List Bool) (references : List (List RefId)) (rows : List ℕ) → MarksStay a b → AreUsersMarked a references rows → AreUsersMarked b references rows
users_stay a b references rows stay h =
    All-weaker (λ row. AreReferencesMarked a (get_or references row [])) (λ row. AreReferencesMarked b (get_or references row [])) (λ row it. references_stay a b (get_or references row []) stay it) rows h

pub change_stays : (t : Table) (a b : List Bool) (references : List (List RefId)) (meant : List (List Meant)) (before now : List KindRow) → MarksStay a b → IsChangeMarked t a references meant before now → IsChangeMarked t b references meant before now
change_stays t a b references meant before now stay h = record {
  gone = All-weaker (StaysOrIsMarked a references now) (StaysOrIsMarked b references now) (λ p it. elim it [
    | inl there ↦ inl there
    | inr marked ↦ inr (references_stay a b (get_or references p.row []) stay marked)
  ]) before h.gone;
  came = All-weaker (WasOrIsMarked t a meant before) (WasOrIsMarked t b meant before) (λ p it. elim it [
    | inl there ↦ inl there
    | inr marked ↦ inr (λ top front word plain named. beginners_stay a b meant (word_key word ∷ []) stay (marked top front word plain named))
  ]) now h.came;
}

-- ---- the rows of one list that are not among those of another

pub rows_within : (n : ℕ) (one other : List KindRow) (rows : List ℕ) → AreAmongOr one other rows → All (λ p. p.row < n) one → All (λ row. row < n) rows
rows_within n one other rows among h =
    All-weaker (Contains (map (λ (p : KindRow). p.row) one)) (λ row. row < n)
    (λ row there. All-contains (λ row. row < n) (map (λ (p : KindRow). p.row) one) row (All-map (λ row. row < n) (λ (p : KindRow). p.row) one h) there) rows among.only

-- of those that went the users are marked
pub users_marked : (marks : List Bool) (references : List (List RefId)) (before now : List KindRow) (rows : List ℕ) → AreAmongOr before now rows → AreUsersMarked marks references rows → All (StaysOrIsMarked marks references now) before
users_marked marks references before now rows among marked k d l = elim (among.each (get_or before k d) (Contains-get_or before k d l)) [
  | inl there ↦ inl there
  | inr gone ↦ inr (All-contains (λ row. AreReferencesMarked marks (get_or references row [])) rows (get_or before k d).row marked gone)
]

the_one : (x y : ℕ) → Contains (x ∷ []) y → x ≡ y
the_one x y there = elim (contains_cases x y [] there) [
  | inl e ↦ e
  | inr none ↦ absurd (nothing_there y none)
]

-- of those that came below no type the files are marked in which a reference begins with the last word
pub beginners_marked : (t : Table) (marks : List Bool) (meant : List (List Meant)) (before now : List KindRow) (rows keys : List ℕ) → AreAmongOr now before rows → HasLastWords t (filter (λ row. not (is_below_type t row)) rows) keys → AreBeginnersMarked marks meant keys → All (WasOrIsMarked t marks meant before) now
beginners_marked t marks meant before now rows keys among last marked k d l = elim (among.each (get_or now k d) (Contains-get_or now k d l)) [
  | inl there ↦ inl there
  | inr came ↦ inr (λ top front word plain named file m there key.
      (let asked = contains_filter (λ row. not (is_below_type t row)) rows (get_or now k d).row came (ap not top) in
      marked file m there (subst (Contains keys) (the_one (word_key word) m.first key) (last (get_or now k d).row front word asked plain named))))
]
