-- An edit that no case refuses is a mapped step: it leaves files that compile, to
-- the old descriptors under its map.
use Rattle.std.specs.Prelude.{List}
use Rattle.proto_base.specs.Texts.{Path, Text}
use Rattle.proto_files.specs.FilesRead.{ReadOf, AreRead}
use Rattle.proto_files.specs.GivenFiles.{FileOf}
use Rattle.proto_edit_entries.specs.Entries.{ChangeOf, IsEntry}
use Rattle.proto_edit_rules.specs.Rename.{changes_of_words, Target, IsNamed, renamed_words}
use Rattle.proto_edit_rename_laws.specs.Rewording.{AreReworded}
use Rattle.proto_edit.specs.Compiled.{AreCompiled}
use Rattle.proto_edit.specs.Workspaces.{IsAdmissible, IsMappedStep, add_import, delete_field, drop_import, rename}

-- The files with the new words are one edit away, and the changes of these words are its entry.
abbrev pub RenamesAreSteps : Type 0
RenamesAreSteps =
    (files : List FileOf) (reads : List ReadOf) (name to : Text) (t : Target)
    (after : List FileOf) (seen : List ReadOf)
    → AreCompiled files
    → AreRead files reads
    → IsNamed files reads name t
    → IsAdmissible files (rename name to)
    → AreReworded (renamed_words files reads t to) files reads after seen
    → IsMappedStep files (rename name to)
    (changes_of_words (renamed_words files reads t to) files reads) after
    × IsEntry (changes_of_words (renamed_words files reads t to) files reads)

-- So each admissible rename has its step.
abbrev pub AdmissibleRenamesStep : Type 0
AdmissibleRenamesStep = (files : List FileOf) (name to : Text)
    → AreCompiled files
    → IsAdmissible files (rename name to)
    → (cs : List ChangeOf) × (after : List FileOf)
    × IsMappedStep files (rename name to) cs after
    × IsEntry cs

-- Each admissible deletion of a field has its step, and its changes are an entry.
abbrev pub AdmissibleDeletionsStep : Type 0
AdmissibleDeletionsStep = (files : List FileOf) (name : Text)
    → AreCompiled files
    → IsAdmissible files (delete_field name)
    → (cs : List ChangeOf) × (after : List FileOf)
    × IsMappedStep files (delete_field name) cs after
    × IsEntry cs

-- So has each added import,
abbrev pub AdmissibleAdditionsStep : Type 0
AdmissibleAdditionsStep = (files : List FileOf) (file path : Path)
    → AreCompiled files
    → IsAdmissible files (add_import file path)
    → (cs : List ChangeOf) × (after : List FileOf)
    × IsMappedStep files (add_import file path) cs after
    × IsEntry cs

-- and each dropped one.
abbrev pub AdmissibleDropsStep : Type 0
AdmissibleDropsStep = (files : List FileOf) (file path : Path)
    → AreCompiled files
    → IsAdmissible files (drop_import file path)
    → (cs : List ChangeOf) × (after : List FileOf)
    × IsMappedStep files (drop_import file path) cs after
    × IsEntry cs
