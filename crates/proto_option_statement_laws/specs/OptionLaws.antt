-- What a deleted field, an added and a dropped import leave of custom options, where no case
-- refuses them.
use Rattle.std.specs.Prelude.{◌≡◌, ℕ, List}
use Rattle.proto_base.specs.Texts.{Path, Text}
use Rattle.proto_files.specs.FilesRead.{AreRead, ReadOf}
use Rattle.proto_files.specs.GivenFiles.{FileOf, file_at}
use Rattle.proto_tree.specs.declared.tree.Import.{Import}
use Rattle.proto_names_rules.specs.Names.{Name}
use Rattle.proto_desc.specs.Checked.{AreDescribed}
use Rattle.proto_descriptors.specs.Descriptors.{FileDesc}
use Rattle.proto_edit_entries.specs.Putting.{IsPut}
use Rattle.proto_edit_rules.specs.AddImport.{changes_of_addition}
use Rattle.proto_edit_rules.specs.DeleteField.{FieldAt, changes_of_deletion, splice_of_deletion}
use Rattle.proto_edit_rules.specs.DropImport.{changes_of_drop}
use Rattle.proto_edit_rules.specs.OptionViews.{OptionsStay}
use Rattle.proto_edit_rules.specs.Statements.{IsTooLong}
use Rattle.proto_edit_statement_described.specs.Workspace.{IsAllowedDeletion}
use Rattle.proto_edit_statement_described.specs.Workspaces.{MayAdd, MayDrop}

-- After the deletion of a field each option has the same path and value, its name means what it
-- meant, and a reader who knows its words sees the same of the types that its value may fill.
abbrev pub DeletionsLeaveOptions : Type 0
DeletionsLeaveOptions =
    (files : List FileOf) (reads : List ReadOf) (name : Text) (f : FieldAt)
    (after : List FileOf) (seen : List ReadOf)
    → IsAllowedDeletion files reads name f
    → (IsTooLong (file_at files f.file) (splice_of_deletion files reads f) → ⊥)
    → IsPut files (changes_of_deletion files reads f) after
    → AreRead after seen
    → (ds new : List FileDesc)
    → AreDescribed files ds
    → AreDescribed after new
    → (ren : Name → Name)
    → ((x : Name) → ren x ≡ x)
    → OptionsStay ren files after reads seen ds new

-- So it is with an added import,
abbrev pub AdditionsLeaveOptions : Type 0
AdditionsLeaveOptions =
    (files : List FileOf) (reads : List ReadOf) (file path : Path) (place : ℕ)
    (after : List FileOf) (seen : List ReadOf)
    → MayAdd files reads file path place
    → IsPut files (changes_of_addition files reads place path) after
    → AreRead after seen
    → (ds new : List FileDesc)
    → AreDescribed files ds
    → AreDescribed after new
    → (ren : Name → Name)
    → ((x : Name) → ren x ≡ x)
    → OptionsStay ren files after reads seen ds new

-- and with a dropped one.
abbrev pub DropsLeaveOptions : Type 0
DropsLeaveOptions =
    (files : List FileOf) (reads : List ReadOf) (file path : Path) (place : ℕ) (i : Import)
    (after : List FileOf) (seen : List ReadOf)
    → MayDrop files reads file path place i
    → IsPut files (changes_of_drop files reads place i) after
    → AreRead after seen
    → (ds new : List FileDesc)
    → AreDescribed files ds
    → AreDescribed after new
    → (ren : Name → Name)
    → ((x : Name) → ren x ≡ x)
    → OptionsStay ren files after reads seen ds new
