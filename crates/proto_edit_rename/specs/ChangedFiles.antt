-- The files in which a rename may change words, by the references that a link has of each name.
use Rattle.std.specs.Prelude.{◌≡◌, ℕ, ◌<◌, Bool, true, false, if◌then◌else◌, List, [], ◌∷◌, length, get_or, map, Option, Some}
use Rattle.std.specs.List.{Contains}
use Rattle.proto_base.specs.Texts.{Text}
use Rattle.proto_names.specs.Linking.{LinkOf, name_text}
use Rattle.proto_names.specs.Linking.{RefId}
use Rattle.proto_edit_captures.specs.declared.rename_target.RenameTarget.{RenameTarget}
use Rattle.proto_edit_rename.specs.MadeChanges.{marked_from}
use Rattle.proto_edit_rename.specs.StandingTokens.{goes_on}

-- the files of these references are marked as well
abbrev pub with_references : List Bool → List RefId → List Bool
with_references marks references = marked_from marks (map (λ r. r.file) references)

-- and those of the references to the name in this row, if it is this name or goes on from it
abbrev pub with_row : LinkOf → Text → List Bool → ℕ → List Bool
with_row l name marks row =
    if goes_on l name row then with_references marks (get_or l.references row []) else marks

-- the same of many rows
abbrev pub with_rows : LinkOf → Text → List Bool → List ℕ → List Bool
with_rows l name marks [] = marks
with_rows l name marks (row ∷ rows) = with_rows l name (with_row l name marks row) rows

-- each file with a reference to the name in this row is marked, of those that have a mark
abbrev pub HasReferencesMarked : LinkOf → List Bool → ℕ → Type 0
HasReferencesMarked l marks row =
    (id : RefId) → Contains (get_or l.references row []) id → id.file < length marks
    → get_or marks id.file false ≡ true

-- the file that declares what is aimed at is marked, each with a reference to it or to what is
-- declared below it, and for a value each with a reference to its enum: in no other file does the
-- rename change words
pub record AreChangedFiles
    (l : LinkOf) (aim : RenameTarget) (enum_name : Option Text) (count : ℕ) (marks : List Bool)
    : Type 0 where
  pub as_many : length marks ≡ count
  pub own : get_or marks aim.file false ≡ true
  pub below : (row : ℕ) → Contains (get_or l.rows aim.file []) row
      → goes_on l aim.name.now row ≡ true → HasReferencesMarked l marks row
  pub users : (row : ℕ) (name : Text) → enum_name ≡ Some name → name_text l row ≡ Some name
      → HasReferencesMarked l marks row
