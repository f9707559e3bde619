-- Files of which one is read otherwise: when no fault of the checks comes
-- in, and which descriptor changes.
use Rattle.std.specs.Prelude.{◌≡◌, ◌≢◌, ℕ, ◌<◌, ◌==◌, false, List, [], length, None}
use Rattle.std.specs.List.{All}
use Rattle.std.specs.Str.{bytes_eq}
use Rattle.proto_base.specs.Texts.{Path}
use Rattle.proto_tree.specs.Moved.{Move}
use Rattle.proto_tree.specs.Tree.{Tree}
use Rattle.proto_files.specs.Faults.{HasNoFault}
use Rattle.proto_files.specs.FilesRead.{AreRead, ReadOf}
use Rattle.proto_files.specs.GivenFiles.{FileOf, file_at}
use Rattle.proto_names_rules.specs.Linked.{IsLinked}
use Rattle.proto_names_imports.specs.Links.{names_of_files}
use Rattle.proto_names_outline.specs.FromTree.{Wanted}
use Rattle.proto_ast.specs.Scenes.{Scene, value}
use Rattle.proto_descriptors.specs.Descriptors.{FileDesc}
use Rattle.proto_desc.specs.SceneOf.{scene_of}
use Rattle.proto_desc.specs.Checked.{AreDescribed, CheckFaults}
use Rattle.proto_edit_statement_described.specs.Deletions.{IsDeletedIn, Reservation, Reserves, WrittenField, written_name}
use Rattle.proto_edit_statement_described.specs.Extensions.{ExtensionsStay}
use Rattle.proto_edit_statement_described.specs.Imports.{HasImport}
use Rattle.proto_edit_rules.specs.AddImport.{with_dependency}
use Rattle.proto_edit_rules.specs.DropImport.{without_dependency}
use Rattle.proto_edit_rules.specs.Statements.{changed_at, tree_at}
use Rattle.proto_edit_rules.specs.DeleteField.{mapped_deletion}
use Rattle.proto_edit_statement_described.specs.Scenes.{IsMovedScene}

-- the scene of the file at this place
abbrev pub scene_at : List FileOf → List ReadOf → ℕ → Scene
scene_at files reads k = scene_of None files reads k

-- The file at this place is read otherwise; no path changes, each other file has its tree and reads
-- the same, and the extensions of all files stay.
pub record OthersStay
    (files : List FileOf) (reads : List ReadOf) (after : List FileOf) (seen : List ReadOf)
    (place : ℕ) : Type 0 where
  pub read : AreRead files reads
  pub seen_are : AreRead after seen
  pub count : length after ≡ length files
  pub within : place < length files
  pub paths : (k : ℕ) → (file_at after k).path ≡ (file_at files k).path
  pub trees : (k : ℕ) → k ≢ place → tree_at seen k ≡ tree_at reads k
  pub scenes : (k : ℕ) → k ≢ place → scene_at after seen k ≡ scene_at files reads k
  pub extensions : ExtensionsStay files reads after seen

-- ---- a field less

-- The field with this name token is deleted from the file, and its number and name are reserved. Of
-- one scene and tree without both, the old ones are those with the field put in, and the new ones
-- those with the reservation put in.
pub record IsFileDeletion
    (files : List FileOf) (reads : List ReadOf) (after : List FileOf) (seen : List ReadOf)
    (place token : ℕ) : Type 0 where
  pub others : OthersStay files reads after seen place
  pub middle : Scene
  pub without : Tree
  pub to_old : Move
  pub to_new : Move
  pub field : WrittenField
  pub reservation : Reservation
  pub old : IsMovedScene to_old middle (scene_at files reads place)
  pub new : IsMovedScene to_new middle (scene_at after seen place)
  pub says : Reserves (scene_at files reads place) (scene_at after seen place) field reservation
  pub trees : IsDeletedIn to_old to_new field reservation without (tree_at reads place)
      (tree_at seen place)
  pub named : written_name field ≡ token
  pub fresh : (i : ℕ) → (to_old i == written_name field) ≡ false

-- No fault of the checks comes in, where the old files are linked,
abbrev pub DeletionsPassTheChecks : Type 0
DeletionsPassTheChecks =
    (files : List FileOf) (reads : List ReadOf) (after : List FileOf) (seen : List ReadOf)
    (place token : ℕ)
    → IsFileDeletion files reads after seen place token
    → IsLinked (names_of_files files reads)
    → HasNoFault (CheckFaults files)
    → HasNoFault (CheckFaults after)

-- and the descriptors are the old ones, of which that of the file is mapped.
abbrev pub DeletionsMapDescriptors : Type 0
DeletionsMapDescriptors =
    (files : List FileOf) (reads : List ReadOf) (after : List FileOf) (seen : List ReadOf)
    (place token : ℕ)
    → IsFileDeletion files reads after seen place token
    → (ds new : List FileDesc)
    → AreDescribed files ds
    → AreDescribed after new
    → new ≡ changed_at place (mapped_deletion token (tree_at reads place)) ds

-- ---- an import more, and one less

-- a change of the imports of the file at the place by the path
abbrev pub ImportChangeAt : Type 1
ImportChangeAt = List FileOf → List ReadOf → List FileOf → List ReadOf → ℕ → Path → Type 0

-- Such a change brings no fault of the checks,
abbrev pub LeaveNoFault : ImportChangeAt → Type 0
LeaveNoFault IsChange =
    (files : List FileOf) (reads : List ReadOf) (after : List FileOf) (seen : List ReadOf)
    (place : ℕ) (path : Path)
    → IsChange files reads after seen place path
    → HasNoFault (CheckFaults files)
    → HasNoFault (CheckFaults after)

-- and the descriptors are the old ones, of which that of the file is mapped.
abbrev pub MapDescriptors : ImportChangeAt → (Path → FileDesc → FileDesc) → Type 0
MapDescriptors IsChange mapped =
    (files : List FileOf) (reads : List ReadOf) (after : List FileOf) (seen : List ReadOf)
    (place : ℕ) (path : Path)
    → IsChange files reads after seen place path
    → (ds new : List FileDesc)
    → AreDescribed files ds
    → AreDescribed after new
    → new ≡ changed_at place (mapped path) ds

-- The file imports the path as well, as its last import, which is neither public nor weak.
pub record IsFileAddition
    (files : List FileOf) (reads : List ReadOf) (after : List FileOf) (seen : List ReadOf)
    (place : ℕ) (path : Path) : Type 0 where
  pub others : OthersStay files reads after seen place
  pub move : Move
  pub scenes : IsMovedScene move (scene_at files reads place) (scene_at after seen place)
  pub wanted : Wanted
  pub trees : HasImport move wanted (tree_at reads place) (tree_at seen place)
  pub last : trees.back ≡ []
  pub private : wanted.is_public ≡ false
  pub strong : wanted.is_weak ≡ false
  pub says : value (scene_at after seen place) wanted.path ≡ path

-- An added import brings no fault of the checks,
abbrev pub AdditionsLeaveNoFault : Type 0
AdditionsLeaveNoFault = LeaveNoFault IsFileAddition

-- and the descriptors are the old ones, of which that of the file has one dependency more.
abbrev pub AdditionsMapDescriptors : Type 0
AdditionsMapDescriptors = MapDescriptors IsFileAddition with_dependency

-- The file imports the path no more: the old file is the new one with the import put in, and
-- had no earlier import of the path.
pub record IsDrop
    (files : List FileOf) (reads : List ReadOf) (after : List FileOf) (seen : List ReadOf)
    (place : ℕ) (path : Path) : Type 0 where
  pub others : OthersStay files reads after seen place
  pub move : Move
  pub scenes : IsMovedScene move (scene_at after seen place) (scene_at files reads place)
  pub wanted : Wanted
  pub trees : HasImport move wanted (tree_at seen place) (tree_at reads place)
  pub first : All (λ v. bytes_eq (value (scene_at files reads place) wanted.path)
      (value (scene_at after seen place) v.path) ≡ false) trees.front
  pub says : value (scene_at files reads place) wanted.path ≡ path

-- A dropped import brings no fault of the checks,
abbrev pub DropsLeaveNoFault : Type 0
DropsLeaveNoFault = LeaveNoFault IsDrop

-- and the descriptors are the old ones, of which that of the file has one dependency less.
abbrev pub DropsMapDescriptors : Type 0
DropsMapDescriptors = MapDescriptors IsDrop without_dependency
