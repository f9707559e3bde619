-- An admissible rename of files without a fault leaves files without one.
use Rattle.std.specs.Prelude.{◌≡◌, ℕ, ◌<◌, List, [], length, None}
use Rattle.std.specs.List.{Contains}
use Rattle.proto_base.specs.Texts.{Text}
use Rattle.proto_files.specs.Faults.{HasNoFault}
use Rattle.proto_files.specs.GivenFiles.{FileOf}
use Rattle.proto_files.specs.FilesRead.{ReadOf, AreRead, read_at}
use Rattle.proto_names_imports.specs.Links.{LinkFaults}
use Rattle.proto_ast.specs.Parts.{BlockOf, FieldOf, blocks_in}
use Rattle.proto_desc_checks.specs.FieldFlaws.{default_flaws}
use Rattle.proto_edit_rename_laws.specs.SceneOf.{scene_of}
use Rattle.proto_desc.specs.Checked.{CheckFaults}
use Rattle.proto_edit_rules.specs.Rename.{RenameCase, fields_of_block, Target, IsNamed, renamed_words}
use Rattle.proto_edit_rename_laws.specs.Rewording.{AreReworded}

-- files without a fault, and the rename of a symbol of theirs that no case refuses
pub record IsAllowedRename
    (files : List FileOf) (reads : List ReadOf) (name to : Text) (t : Target) : Type 0 where
  pub read : AreRead files reads
  pub link : HasNoFault (LinkFaults files)
  pub checks : HasNoFault (CheckFaults files)
  pub named : IsNamed files reads name t
  pub admissible : (n : ℕ) → RenameCase files reads name to n → ⊥

-- no default is wrong afterwards
abbrev pub DefaultsFit : List FileOf → List ReadOf → Type 0
DefaultsFit after seen = (file : ℕ) (b : BlockOf) (f : FieldOf)
    → file < length after
    → Contains (blocks_in (read_at seen file).tree) b
    → Contains (fields_of_block b.header b.within) f
    → default_flaws (scene_of None after seen file) f ≡ []

-- No fault of links and checks comes in.
abbrev pub RenamesLeaveNoFault : Type 0
RenamesLeaveNoFault =
    (files : List FileOf) (reads : List ReadOf) (name to : Text) (t : Target)
    (after : List FileOf) (seen : List ReadOf)
    → IsAllowedRename files reads name to t
    → AreReworded (renamed_words files reads t to) files reads after seen
    → HasNoFault (LinkFaults after) × HasNoFault (CheckFaults after)
