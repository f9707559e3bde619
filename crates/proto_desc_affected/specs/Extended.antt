-- What is wrong with files that an edit of other files does not affect. The numbers of extensions
-- depend on other files: on the ranges of what they extend, and on the extensions before them. So
-- do custom options: on what the extensions that they mean extend.
use Rattle.std.specs.Prelude.{◌≡◌, ◌⊎◌, ℕ, ◌<◌, false, List, [], length, Option, Some, None}
use Rattle.std.specs.List.{Contains}
use Rattle.proto_base.specs.Texts.{Text}
use Rattle.proto_files.specs.FilesRead.{ReadOf, read_at}
use Rattle.proto_files.specs.GivenFiles.{FileOf}
use Rattle.proto_names_rules.specs.Skeleton.{Used}
use Rattle.proto_names.specs.Links.{uses_of}
use Rattle.proto_desc_checks.specs.FileFlaws.{file_flaws}
use Rattle.proto_resolved.specs.SceneOf.{meaning_of, scene_of}
use Rattle.proto_desc_extensions.specs.Extends.{has_extend}
use Rattle.proto_desc_extensions.specs.Extensions.{all_flaws}
use Rattle.proto_desc_affected.specs.Unaffected.{AreSoundlyEdited, IsUnaffectedFile, StoodElsewhere}

-- the file has no `extend` block, neither before nor now
abbrev pub HasNoExtend : List ReadOf → List ReadOf → ℕ → Type 0
HasNoExtend was reads file =
    (has_extend (read_at was file).tree ≡ false) × (has_extend (read_at reads file).tree ≡ false)

-- what the file's references mean stood in files that are not edited
abbrev pub RefersElsewhere : List ℕ → List FileOf → List ReadOf
    → List FileOf → List ReadOf → ℕ → Type 0
RefersElsewhere places before was files reads file =
    (u : Used ℕ) (name : List Text) → Contains (uses_of reads file) u
    → meaning_of files reads file u ≡ Some name → StoodElsewhere places before was name

-- each file with an `extend` block is unaffected, and what it refers to stood in files that are not
-- edited
pub record ExtendsAreUnaffected (places : List ℕ) (before : List FileOf) (was : List ReadOf)
    (files : List FileOf) (reads : List ReadOf) : Type 0 where
  pub unaffected : (file : ℕ) → file < length files
      → IsUnaffectedFile places before was files reads file ⊎ HasNoExtend was reads file
  pub elsewhere : (file : ℕ) → IsUnaffectedFile places before was files reads file
      → (has_extend (read_at reads file).tree ≡ false)
      ⊎ RefersElsewhere places before was files reads file

-- what is wrong with an unaffected file alone is what was
abbrev pub UnaffectedFlawsOfFilesStay : Type 0
UnaffectedFlawsOfFilesStay =
    (places : List ℕ) (before : List FileOf) (was : List ReadOf)
    → (files : List FileOf) (reads : List ReadOf)
    → AreSoundlyEdited places before was files reads
    → (file : ℕ) → IsUnaffectedFile places before was files reads file
    → (cap : Option ℕ)
    → file_flaws (scene_of cap files reads file) (read_at reads file).tree
    ≡ file_flaws (scene_of cap before was file) (read_at was file).tree

-- nothing is wrong with an unaffected file with which nothing was wrong
abbrev pub UnaffectedFilesStayFlawless : Type 0
UnaffectedFilesStayFlawless =
    (places : List ℕ) (before : List FileOf) (was : List ReadOf)
    → (files : List FileOf) (reads : List ReadOf)
    → AreSoundlyEdited places before was files reads
    → ExtendsAreUnaffected places before was files reads
    → (file : ℕ) → IsUnaffectedFile places before was files reads file
    → all_flaws None before was file ≡ [] → all_flaws None files reads file ≡ []
