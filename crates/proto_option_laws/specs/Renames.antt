-- An allowed rename leaves options.
use Rattle.std.specs.Prelude.{◌≡◌, ℕ, List}
use Rattle.proto_base.specs.Texts.{Text}
use Rattle.proto_custom_options.specs.CustomOptions.{customs_in}
use Rattle.proto_desc.specs.Checked.{AreDescribed}
use Rattle.proto_descriptors.specs.Descriptors.{FileDesc}
use Rattle.proto_edit_rename_described.specs.Allowed.{IsAllowedRename}
use Rattle.proto_edit_rename_laws.specs.Rewording.{AreReworded}
use Rattle.proto_edit_rules.specs.OptionViews.{OptionsStay}
use Rattle.proto_edit_rules.specs.Rename.{Target, name_map, renamed_words}
use Rattle.proto_files.specs.FilesRead.{ReadOf, read_at}
use Rattle.proto_files.specs.GivenFiles.{FileOf}
use Rattle.proto_names_rules.specs.Edits.{ren}
use Rattle.proto_names_rules.specs.Names.{Name}

-- Each has the same path and value, its name means what the name map makes of what it meant, and a
-- reader who knows its words sees the same of the types that its value may fill.
abbrev pub RenamesLeaveOptions : Type 0
RenamesLeaveOptions =
    (files : List FileOf) (reads : List ReadOf) (name to : Text) (t : Target)
    (after : List FileOf) (seen : List ReadOf)
    → IsAllowedRename files reads name to t
    → AreReworded (renamed_words files reads t to) files reads after seen
    → (ds new : List FileDesc)
    → AreDescribed files ds
    → AreDescribed after new
    → (f : Name → Name)
    → ((x : Name) → f x ≡ ren (name_map files reads t to) x)
    → OptionsStay f files after reads seen ds new

-- None goes, and they stand in the same order.
abbrev pub RenamesKeepOptions : Type 0
RenamesKeepOptions =
    (files : List FileOf) (reads : List ReadOf) (name to : Text) (t : Target)
    (after : List FileOf) (seen : List ReadOf)
    → IsAllowedRename files reads name to t
    → AreReworded (renamed_words files reads t to) files reads after seen
    → (file : ℕ)
    → customs_in (read_at seen file).tree ≡ customs_in (read_at reads file).tree
