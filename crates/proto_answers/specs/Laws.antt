-- When editors do not make the same of an edit.
use Rattle.std.specs.Prelude.{◌≡◌, List}
use Rattle.std.specs.List.{AllByRecursion, Contains}
use Rattle.proto_base.specs.Texts.{Text}
use Rattle.proto_edit.specs.Compiled.{AreCompiled}
use Rattle.proto_edit.specs.Workspaces.{AreChanges, Asked, IsMappedStep, rename}
use Rattle.proto_edit_entries.specs.Entries.{ChangeOf}
use Rattle.proto_files.specs.GivenFiles.{AreWorkspaceFiles, FileOf}
use Rattle.proto_positions.specs.TextEdits.{HavePositions}
use Rattle.proto_answers.specs.EditAnswers.{HasUnsuited}
use Rattle.proto_answers.specs.LineEnds.{HasLoneReturn}

-- Both ends of each splice of an edit have positions of their own.
abbrev pub StepsHavePositions : Type 0
StepsHavePositions =
    (files : List FileOf) (edit : Asked) (cs : List ChangeOf) (c : ChangeOf) (f : FileOf)
    → AreWorkspaceFiles files
    → AreChanges files edit cs
    → Contains cs c
    → Contains files f
    → f.path ≡ c.path
    → AllByRecursion (HavePositions f.bytes) c.splices

-- one of the changes is of a file in which a carriage return stands alone
abbrev pub ChangesLoneReturn : List FileOf → List ChangeOf → Type 0
ChangesLoneReturn files cs = (c : ChangeOf) × Contains cs c × (f : FileOf) × Contains files f
    × (f.path ≡ c.path) × HasLoneReturn f.bytes

-- A change of a rename suits no file only where it is of one in which a carriage return stands
-- alone.
abbrev pub RenameLineEndsAreLone : Type 0
RenameLineEndsAreLone =
    (files after : List FileOf) (name to : Text) (cs : List ChangeOf)
    → AreCompiled files
    → IsMappedStep files (rename name to) cs after
    → HasUnsuited files cs
    → ChangesLoneReturn files cs
