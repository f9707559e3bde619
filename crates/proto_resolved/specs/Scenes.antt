-- Scenes of the files of a workspace, as they are made.
use Rattle.std.specs.Prelude.{◌≡◌, ℕ, List, length, Some}
use Rattle.proto_files.specs.GivenFiles.{FileOf}
use Rattle.proto_files.specs.FilesRead.{Each, ReadOf, AreRead}
use Rattle.proto_ast.specs.Numbers.{past}
use Rattle.proto_ast.specs.Scenes.{Scene}
use Rattle.proto_resolved.specs.SceneOf.{scene_of}

-- the scene is that of the file with this number, from 0, its numbers up to a cap past every limit
abbrev pub IsSceneOf : List FileOf → ℕ → Scene → Type 0
IsSceneOf files file scene =
    (reads : List ReadOf) → AreRead files reads
    → scene ≡ scene_of (Some past) files reads file

-- there are as many scenes as files, and each is that of its file
pub record AreScenes (files : List FileOf) (scenes : List Scene) : Type 0 where
  pub len : length scenes ≡ length files
  pub each : Each (λ k s. IsSceneOf files k s) scenes
