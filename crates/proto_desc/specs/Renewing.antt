-- What is made of files that an edit affects, and put in place of what was there.
use Rattle.std.specs.Prelude.{◌≡◌, ℕ, List, [], length, map, slice_get, Some, None}
use Rattle.std.specs.List.{All, Contains}
use Rattle.proto_desc_checks.specs.FileFlaws.{file_flaws}
use Rattle.proto_desc_extensions.specs.Extensions.{custom_flaws}
use Rattle.proto_desc.specs.declared.descriptors.Descriptors.{Descriptors}
use Rattle.proto_desc.specs.declared.renewing.Made.{Made}
use Rattle.proto_desc_build.specs.Described.{file_described}
use Rattle.proto_descriptors.specs.Views.{file_desc}
use Rattle.proto_files.specs.FilesRead.{AreRead, ReadOf, read_at}
use Rattle.proto_files.specs.GivenFiles.{FileOf, file_at}
use Rattle.proto_desc_affected.specs.Checked.{IsKeptOf}
use Rattle.proto_resolved.specs.SceneOf.{scene_of}
use Rattle.proto_desc_affected.specs.Kept.{file_summary_of}

-- nothing is wrong with the file alone, nor with its custom options, and this is its descriptor,
-- with what is kept of it
pub record IsMade (files : List FileOf) (m : Made) : Type 0 where
  pub flawless : (reads : List ReadOf) → AreRead files reads
      → file_flaws (scene_of None files reads m.file) (read_at reads m.file).tree ≡ []
  pub options : (reads : List ReadOf) → AreRead files reads
      → custom_flaws files reads m.file ≡ []
  pub described : (reads : List ReadOf) → AreRead files reads
      → file_desc m.descriptor
      ≡ file_described (scene_of None files reads m.file) (file_at files m.file).path
      (read_at reads m.file).tree
  pub kept : IsKeptOf files m.file (file_summary_of m.kept)

-- the files of which these were made
abbrev pub files_made : List Made → List ℕ
files_made all = map (λ m. m.file) all

-- so it is made of each of these files, in order
pub record AreMade (files : List FileOf) (listed : List ℕ) (all : List Made) : Type 0 where
  pub numbers : files_made all ≡ listed
  pub each : All (IsMade files) all

-- what was made of a file stands in its place
pub record IsThere (m : Made) (new : Descriptors) : Type 0 where
  pub descriptor : slice_get new.file.items m.file ≡ Some m.descriptor
  pub kept : slice_get new.kept.items m.file ≡ Some m.kept

-- in the place of a file stands what stood there
pub record IsLeft (file : ℕ) (old new : Descriptors) : Type 0 where
  pub descriptor : slice_get new.file.items file ≡ slice_get old.file.items file
  pub kept : slice_get new.kept.items file ≡ slice_get old.kept.items file

-- there are as many as there were
pub record AreAsMany (old new : Descriptors) : Type 0 where
  pub descriptors : length new.file.items ≡ length old.file.items
  pub kept : length new.kept.items ≡ length old.kept.items

-- what was made of a file stands in its place, and any other is left
pub record IsPut (m : Made) (old new : Descriptors) : Type 0 where
  pub as_many : AreAsMany old new
  pub there : IsThere m new
  pub others : (other : ℕ) → (other ≡ m.file → ⊥) → IsLeft other old new

-- what was made of a file is among these, and stands in its place
abbrev pub HasOwn : List Made → ℕ → Descriptors → Type 0
HasOwn all file new = (m : Made) × Contains all m × (m.file ≡ file) × IsThere m new

-- each file of which something was made has that, and any other is left
pub record ArePut (all : List Made) (old new : Descriptors) : Type 0 where
  pub as_many : AreAsMany old new
  pub there : (file : ℕ) → Contains (files_made all) file → HasOwn all file new
  pub others : (file : ℕ) → (Contains (files_made all) file → ⊥) → IsLeft file old new
