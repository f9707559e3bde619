-- Which files are marked, to be re-resolved.
use Rattle.std.specs.Prelude.{◌≡◌, ℕ, ◌==◌, Bool, true, false, List, [], length, get_or}
use Rattle.std.specs.List.{All, Contains, list_any}
use Rattle.proto_names_table.specs.declared.ids.Meant.{Meant}
use Rattle.proto_names_table.specs.declared.ids.RefId.{RefId}

-- the file is marked
abbrev pub IsMarked : List Bool → ℕ → Type 0
IsMarked marks file = get_or marks file false ≡ true

-- there are as many marks as before, and those that were set still are
pub record MarksStay (old new : List Bool) : Type 0 where
  pub count : length new ≡ length old
  pub set : (file : ℕ) → IsMarked old file → IsMarked new file

-- each of these files is marked
abbrev pub ArePlacesMarked : List Bool → List ℕ → Type 0
ArePlacesMarked marks places = All (IsMarked marks) places

-- the file of each of these references is marked
abbrev pub AreReferencesMarked : List Bool → List RefId → Type 0
AreReferencesMarked marks references = All (λ r. IsMarked marks r.file) references

-- so it is with each reference in the lists of these rows
abbrev pub AreUsersMarked : List Bool → List (List RefId) → List ℕ → Type 0
AreUsersMarked marks references rows =
    All (λ row. AreReferencesMarked marks (get_or references row [])) rows

-- the file is marked, if it has a reference which begins with a word of this key
abbrev pub IsBeginnerMarked : List Bool → List (List Meant) → ℕ → ℕ → Type 0
IsBeginnerMarked marks meant key file =
    (m : Meant) → Contains (get_or meant file []) m → m.first ≡ key → IsMarked marks file

-- each file is marked that has a reference which begins with a word of one of these keys
abbrev pub AreBeginnersMarked : List Bool → List (List Meant) → List ℕ → Type 0
AreBeginnersMarked marks meant keys =
    (file : ℕ) (m : Meant) → Contains (get_or meant file []) m → Contains keys m.first
    → IsMarked marks file

-- one of the references begins with a word of one of these keys
abbrev pub begins_so : List ℕ → List Meant → Bool
begins_so keys ms = list_any (λ key. list_any (λ m. m.first == key) ms) keys
