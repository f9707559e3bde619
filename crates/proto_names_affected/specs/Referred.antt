-- The references of all files to a name, file after file.
use Rattle.std.specs.Prelude.{◌≡◌, ℕ, suc, ◌==◌, Bool, false, not, if◌then◌else◌, List, [], ◌∷◌, ◌++◌, length, map, get_or}
use Rattle.std.specs.List.{filter}
use Rattle.proto_names_table.specs.declared.ids.Meant.{Meant}
use Rattle.proto_names_table.specs.declared.ids.RefId.{RefId}
use Rattle.proto_names_affected.specs.Merged.{ReferencesAreRising, is_of_marked_file}

-- a reference, and the number of the name that it means
pub record MeantRow : Type 0 where
  pub reference : RefId
  pub row : ℕ

-- what a file's reference means
abbrev pub meant_row : ℕ → Meant → MeantRow
meant_row file m = record { reference = record { file = file; token = m.token }; row = m.row }

-- those that mean this name
abbrev pub references_to_row : ℕ → List MeantRow → List RefId
references_to_row row ms = map (λ m. m.reference) (filter (λ m. m.row == row) ms)

-- the references of all files from this number on, file after file, each list as its file has it
abbrev pub all_meant_by : {M : Type 0} → (ℕ → M → MeantRow) → ℕ → List (List M) → List MeantRow
all_meant_by by file [] = []
all_meant_by by file (ms ∷ rest) = map (by file) ms ++ all_meant_by by (suc file) rest

-- a file's references are of that file
abbrev pub IsOfFile : {M : Type 0} → (ℕ → M → MeantRow) → Type 0
IsOfFile {M} by = (file : ℕ) (m : M) → (by file m).reference.file ≡ file

-- the references to a name rise by their files
abbrev pub ReferencesRise : Type 0 → Type 0
ReferencesRise M =
    (by : ℕ → M → MeantRow) → IsOfFile by → (row : ℕ) (meant : List (List M))
    → ReferencesAreRising (references_to_row row (all_meant_by by 0 meant))

-- the references to a name of files that are not marked are those that there were, where these
-- files have the references that they had
abbrev pub UnmarkedReferencesStay : Type 0 → Type 0
UnmarkedReferencesStay M =
    (by : ℕ → M → MeantRow) → IsOfFile by → (marks : List Bool) (row : ℕ)
    → (old new : List (List M)) → length old ≡ length new
    → ((file : ℕ) → get_or marks file false ≡ false → get_or old file [] ≡ get_or new file [])
    → filter (λ r. not (is_of_marked_file marks r)) (references_to_row row (all_meant_by by 0 new))
    ≡ filter (λ r. not (is_of_marked_file marks r)) (references_to_row row (all_meant_by by 0 old))

-- the references to a name of the marked files from this number on, file after file
abbrev pub gathered : {M : Type 0}
    → (ℕ → M → MeantRow) → List Bool → ℕ → ℕ → List (List M) → List RefId
gathered by marks row file [] = []
gathered by marks row file (ms ∷ rest) =
    (if get_or marks file false then references_to_row row (map (by file) ms) else [])
    ++ gathered by marks row (suc file) rest

-- those of marked files among all references to a name are these
abbrev pub MarkedAreGathered : Type 0 → Type 0
MarkedAreGathered M =
    (by : ℕ → M → MeantRow) → IsOfFile by → (marks : List Bool) (row : ℕ) (meant : List (List M))
    → filter (is_of_marked_file marks) (references_to_row row (all_meant_by by 0 meant))
    ≡ gathered by marks row 0 meant
