-- Files that an edit of other files does not affect: what their references mean is as it was, and
-- so are the enums among that, of a proto3 file but for the names of their values.
use Rattle.std.specs.Prelude.{◌≡◌, ◌⊎◌, ℕ, ◌<◌, Bool, List, length, Option, Some}
use Rattle.std.specs.List.{Contains}
use Rattle.proto_base.specs.Texts.{Text}
use Rattle.proto_files.specs.Faults.{HasNoFault}
use Rattle.proto_files.specs.FilesRead.{ReadOf, read_at}
use Rattle.proto_files.specs.GivenFiles.{FileOf, file_at}
use Rattle.proto_names_rules.specs.Faults.{place_of}
use Rattle.proto_names_rules.specs.Grown.{At}
use Rattle.proto_names_rules.specs.Skeleton.{Declared, Used}
use Rattle.proto_names_imports.specs.Links.{LinkFaults}
use Rattle.proto_names_update.specs.Edited.{AreEdited}
use Rattle.proto_names_update.specs.Relinked.{NoNameClashes}
use Rattle.proto_names.specs.Links.{uses_of}
use Rattle.proto_resolved.specs.SceneOf.{declared_as, enum_named, is_proto3_file, meaning_of, scene_of}
use Rattle.proto_desc_build.specs.Described.{file_described}
use Rattle.proto_desc_affected.specs.Values.{IsSameEnum, IsSameScene}

-- files of which those at these places are edited, and of which no name clashes with another,
-- neither before nor now
pub record AreSoundlyEdited (places : List ℕ) (before : List FileOf) (was : List ReadOf)
    (files : List FileOf) (reads : List ReadOf) : Type 0 where
  pub edited : AreEdited places before was files reads
  pub apart_before : NoNameClashes before was
  pub apart_now : NoNameClashes files reads

-- so it is where neither had a fault of imports, names and references
abbrev pub CleanEditsAreSound : Type 0
CleanEditsAreSound =
    (places : List ℕ) (before : List FileOf) (was : List ReadOf)
    → (files : List FileOf) (reads : List ReadOf) → AreEdited places before was files reads
    → HasNoFault (LinkFaults before) → HasNoFault (LinkFaults files)
    → AreSoundlyEdited places before was files reads

-- the name stood in a file that is not edited, if anywhere
abbrev pub StoodElsewhere : List ℕ → List FileOf → List ReadOf → List Text → Type 0
StoodElsewhere places before was name =
    (d : Declared At) → declared_as before was name ≡ Some d
    → Contains places (place_of d).file → ⊥

-- to a file that is proto3 or not, the enum of this name is what it was, if there is one or was one
abbrev pub NamesSameEnum
    : Bool → List FileOf → List ReadOf → List FileOf → List ReadOf → List Text → Type 0
NamesSameEnum proto3 before was files reads name =
    IsSameEnum proto3 (enum_named before was name) (enum_named files reads name)

-- the file is not edited; each of its references means what it meant; and that stood in a file that
-- is not edited, or is no enum, or an enum that is to the file what it was
pub record IsUnaffectedFile (places : List ℕ) (before : List FileOf) (was : List ReadOf)
    (files : List FileOf) (reads : List ReadOf) (file : ℕ) : Type 0 where
  pub within : file < length files
  pub left : Contains places file → ⊥
  pub means : (u : Used ℕ) → Contains (uses_of reads file) u
      → meaning_of files reads file u ≡ meaning_of before was file u
  pub enums : (u : Used ℕ) (name : List Text) → Contains (uses_of reads file) u
      → meaning_of files reads file u ≡ Some name
      → StoodElsewhere places before was name
      ⊎ NamesSameEnum (is_proto3_file before was file) before was files reads name

-- the scene of an unaffected file is what it was, of a proto3 file but for the names of enums'
-- values
abbrev pub UnaffectedScenesStay : Type 0
UnaffectedScenesStay =
    (places : List ℕ) (before : List FileOf) (was : List ReadOf)
    → (files : List FileOf) (reads : List ReadOf)
    → AreSoundlyEdited places before was files reads
    → (file : ℕ) → IsUnaffectedFile places before was files reads file
    → (cap : Option ℕ) → IsSameScene (scene_of cap files reads file) (scene_of cap before was file)

-- the descriptor of an unaffected file is what it was
abbrev pub UnaffectedDescriptorsStay : Type 0
UnaffectedDescriptorsStay =
    (places : List ℕ) (before : List FileOf) (was : List ReadOf)
    → (files : List FileOf) (reads : List ReadOf)
    → AreSoundlyEdited places before was files reads
    → (file : ℕ) → IsUnaffectedFile places before was files reads file
    → (cap : Option ℕ)
    → file_described (scene_of cap files reads file) (file_at files file).path
    (read_at reads file).tree
    ≡ file_described (scene_of cap before was file) (file_at before file).path
    (read_at was file).tree
