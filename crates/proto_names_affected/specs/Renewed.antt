-- The lists of references to each name, once those of marked files are others.
use Rattle.std.specs.Prelude.{◌≡◌, ◌⊎◌, ℕ, ◌<◌, Bool, not, List, [], ◌++◌, length, get_or}
use Rattle.std.specs.Global.{Vec}
use Rattle.std.specs.List.{All, Contains, filter}
use Rattle.proto_names_affected.specs.Merged.{ReferencesAreRising, is_of_marked_file}
use Rattle.proto_names_affected.specs.Referred.{all_meant_by, meant_row, references_to_row}
use Rattle.proto_names_table.specs.declared.ids.Meant.{Meant}
use Rattle.proto_names_table.specs.declared.ids.RefId.{RefId}

-- the list of each row has the references of all files that mean it
abbrev pub AreReferencesOf : List (List RefId) → List (List Meant) → Type 0
AreReferencesOf references meant =
    (row : ℕ) → get_or references row [] ≡ references_to_row row (all_meant_by meant_row 0 meant)

-- all references to the name of a row: those of files that are not marked are those that there
-- were, and those of marked files what the list of the row has, if it is among these rows
pub record IsWanted (marks : List Bool) (rows : List ℕ) (lists : List (List RefId)) (row : ℕ)
    (was all : List RefId) : Type 0 where
  pub rising : ReferencesAreRising all
  pub stay : filter (λ r. not (is_of_marked_file marks r)) all
      ≡ filter (λ r. not (is_of_marked_file marks r)) was
  pub fresh : (k : ℕ) → k < length rows → get_or rows k 0 ≡ row
      → filter (is_of_marked_file marks) all ≡ get_or lists k []

-- the lists of these rows have all references now, and those of other rows are as they were
abbrev pub AreRenewed : List Bool → List ℕ → List (List RefId) → List (List RefId)
    → List (List RefId) → Type 0
AreRenewed marks rows lists old new =
    (row : ℕ) (all : List RefId) → IsWanted marks rows lists row (get_or old row []) all
    → ((Contains rows row → ⊥) × (get_or new row [] ≡ get_or old row []))
    ⊎ (get_or new row [] ≡ all)

-- there may be more lists, all of them empty
pub record AreGrown (old new : List (Vec RefId)) : Type 0 where
  pub added : List (Vec RefId)
  pub behind : new ≡ old ++ added
  pub empty : All (λ v. v.items ≡ []) added
