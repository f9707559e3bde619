-- What is read of files before and after a rename: scenes that differ in names.
use Rattle.std.specs.Prelude.{ℕ, ◌<◌, Bool, List, length, None, is_some}
use Rattle.proto_base.specs.Texts.{Text}
use Rattle.proto_case.specs.Camel.{entry_name}
use Rattle.proto_files.specs.GivenFiles.{FileOf}
use Rattle.proto_files.specs.FilesRead.{ReadOf, AreRead}
use Rattle.proto_names_rules.specs.Grown.{At, at}
use Rattle.proto_names_rules.specs.Linked.{IsLinked, IsFree}
use Rattle.proto_names_rules.specs.Skeleton.{Source, Declared, IsWoven, IsAim, IsAimEntry, renaming_of, IsRespelled}
use Rattle.proto_names_imports.specs.Links.{text_of, link_skeleton, names_of_files}
use Rattle.proto_desc_checks_laws.specs.Renamed.{DifferInNames}
use Rattle.proto_resolved.specs.SceneOf.{scene_of}
use Rattle.proto_edit_rename_laws.specs.Rewording.{SuitFiles, AreReworded}
use Rattle.proto_edit_rules.specs.Rename.{NewWords}
use Rattle.proto_edit_rename_laws.specs.Roles.{NumbersStay}

-- linked files, the symbol that a rename aims at, and the files after a change that spells
-- the names as the name map wants them
pub record IsRename
    (files : List FileOf) (reads : List ReadOf) (c : NewWords) (after : List FileOf)
    (seen : List ReadOf) (token : At) (above : List (Source At)) (aim : Declared At) (is_map : Bool)
    (to : Text) : Type 0 where
  pub read : AreRead files reads
  pub suits : SuitFiles c reads
  pub reworded : AreReworded c files reads after seen
  pub linked : IsLinked (names_of_files files reads)
  pub woven : IsWoven (link_skeleton files reads)
  pub is : IsAim (link_skeleton files reads) token above aim
  pub entry : IsAimEntry (link_skeleton files reads) token above is_map
  pub respelled : IsRespelled (text_of files reads) (text_of after seen) entry_name
      (link_skeleton files reads) token
      (renaming_of (text_of files reads) entry_name token above is_map to)
  pub free : IsFree (renaming_of (text_of files reads) entry_name token above is_map to)
      (names_of_files files reads)
  pub numbers : NumbersStay c reads

-- The scenes of each file differ in names.
abbrev pub ScenesDiffer : Type 0
ScenesDiffer =
    (files : List FileOf) (reads : List ReadOf) (c : NewWords) (after : List FileOf)
    (seen : List ReadOf) (token : At) (above : List (Source At)) (aim : Declared At) (is_map : Bool)
    (to : Text)
    → IsRename files reads c after seen token above aim is_map to
    → (file : ℕ)
    → file < length files
    → DifferInNames (λ t. is_some (c (at file t))) (scene_of None files reads file)
    (scene_of None after seen file)
