-- What a rename looks for in each file.
use Rattle.std.specs.Prelude.{Bool, List, length, Option}
use Rattle.proto_base.specs.Texts.{Text}
use Rattle.proto_files.specs.GivenFiles.{FileOf}
use Rattle.proto_resolved.specs.LinkedFiles.{AreCleanLinked, LinkedFiles}
use Rattle.proto_edit_captures.specs.FoundTargets.{IsTargetOf}
use Rattle.proto_edit_captures.specs.declared.rename_target.RenameTarget.{RenameTarget}
use Rattle.proto_edit_rename.specs.ChangedFiles.{AreChangedFiles}
use Rattle.proto_edit_rename.specs.Changes.{IsValueOf}

-- the files, and the target of the rename
pub record RenameScopeOf : Type 0 where
  pub files : List FileOf
  pub target : RenameTarget

-- the target of a rename, in files without faults: for a value the name of its enum, the old word,
-- and the marks of the files in which the rename may change words
pub record IsRenameScope
    (l : LinkedFiles) (target : RenameTarget) (enum_name : Option Text) (old : Text) (marks : List Bool)
    : Type 0 where
  pub clean : AreCleanLinked l
  pub target_of : IsTargetOf l.files target
  pub value : IsValueOf l.files target enum_name old
  pub changed : AreChangedFiles l.link target enum_name (length l.files) marks
