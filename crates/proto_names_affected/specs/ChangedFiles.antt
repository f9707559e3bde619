-- The files that have to be re-resolved, by the rows of what edited files declared and declare.
use Rattle.std.specs.Prelude.{◌≡◌, ◌⊎◌, ℕ, ◌<◌, List, [], ◌∷◌, ◌++◌, Bool, false, length, get_or}
use Rattle.std.specs.List.{All, Contains, filter_map}
use Rattle.proto_base.specs.Words.{word_key}
use Rattle.proto_names_table.specs.declared.ids.Meant.{Meant}
use Rattle.proto_names_table.specs.declared.ids.RefId.{RefId}
use Rattle.proto_names_affected.specs.Marking.{AreBeginnersMarked, ArePlacesMarked, AreReferencesMarked}
use Rattle.proto_names_affected.specs.KindRows.{is_below_type, kind_row}
use Rattle.proto_names_affected.specs.declared.kind_rows.KindRow.{KindRow}
use Rattle.proto_names_rules.specs.Joined.{joined, ArePlain}
use Rattle.proto_names_rules.specs.Names.{Name, Word}
use Rattle.proto_names_table.specs.Tables.{names_of}
use Rattle.proto_names_table.specs.declared.table.Table.{Table}

-- the rows of a file's names with their kinds
abbrev pub kind_rows_of : Table → List (List ℕ) → ℕ → List KindRow
kind_rows_of t rows file = filter_map (kind_row t) (get_or rows file [])

-- the pair is one of these still, or the files with references to the row's name are marked
abbrev pub StaysOrIsMarked : List Bool → List (List RefId) → List KindRow → KindRow → Type 0
StaysOrIsMarked marks references now p =
    Contains now p ⊎ AreReferencesMarked marks (get_or references p.row [])

-- the pair was one of these, or the row's name stands right below a type's, or the files are marked
-- in which a reference begins with a word that has the key of the last word of the row's name
abbrev pub WasOrIsMarked : Table → List Bool → List (List Meant) → List KindRow → KindRow → Type 0
WasOrIsMarked t marks meant before p =
    Contains before p
    ⊎ (is_below_type t p.row ≡ false → (front : Name) (word : Word) → ArePlain (front ++ word ∷ [])
    → get_or (names_of t) p.row [] ≡ joined (front ++ word ∷ [])
    → AreBeginnersMarked marks meant (word_key word ∷ []))

-- so it is with each of what a file declared and declares
pub record IsChangeMarked (t : Table) (marks : List Bool) (references : List (List RefId))
    (meant : List (List Meant)) (before now : List KindRow) : Type 0 where
  pub gone : All (StaysOrIsMarked marks references now) before
  pub came : All (WasOrIsMarked t marks meant before) now

-- the files at these places are marked, and so it is with what each of them declared and declares
pub record AreChangesMarked (t : Table) (marks : List Bool) (places : List ℕ)
    (references : List (List RefId)) (meant : List (List Meant)) (before now : List (List KindRow))
    : Type 0 where
  pub edited : ArePlacesMarked marks places
  pub each : (k : ℕ) → k < length places
      → IsChangeMarked t marks references meant (get_or before k []) (get_or now k [])
