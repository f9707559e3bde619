-- Files of which one has its tokens moved, since an import comes in: what is
-- asked of them, and how they read.
use Rattle.std.specs.Prelude.{◌≡◌, ◌≢◌, ℕ, List, length, slice_get}
use Rattle.proto_files.specs.FilesRead.{ReadOf}
use Rattle.proto_files.specs.GivenFiles.{FileOf, file_at}
use Rattle.proto_tree.specs.Moved.{Move, move_tree}
use Rattle.proto_desc_checks_laws.specs.Imports.{without_imports}
use Rattle.proto_edit_statement_described.specs.SceneOf.{lexemes_of}
use Rattle.proto_edit_statement_laws.specs.Kept.{MeanTheSame}
use Rattle.proto_edit_statement_described.specs.Files.{scene_at}
use Rattle.proto_edit_rules.specs.Statements.{tree_at}
use Rattle.proto_edit_statement_described.specs.Scenes.{IsMovedScene}

-- The file at this place has each token whole at its moved index, and but for its imports the same
-- tree, moved; the others are the same. Each file is of its language.
pub record AreMoved
    (files : List FileOf) (reads : List ReadOf) (after : List FileOf) (seen : List ReadOf)
    (place : ℕ) (g : Move) : Type 0 where
  pub profiles : (k : ℕ) → (file_at after k).profile ≡ (file_at files k).profile
  pub apart : (i j : ℕ) → g i ≡ g j → i ≡ j
  pub own : (i : ℕ)
      → slice_get (lexemes_of after seen place) (g i) ≡ slice_get (lexemes_of files reads place) i
  pub others : (k : ℕ) → k ≢ place → lexemes_of after seen k ≡ lexemes_of files reads k
  pub count : length seen ≡ length reads
  pub tree : without_imports (tree_at seen place)
      ≡ move_tree g (without_imports (tree_at reads place))
  pub trees : (k : ℕ) → k ≢ place → tree_at seen k ≡ tree_at reads k

-- Where each reference means what it meant, the other files read the
-- same, and this one at moved tokens.
abbrev pub MovedFilesRead : Type 0
MovedFilesRead =
    (files : List FileOf) (reads : List ReadOf) (after : List FileOf) (seen : List ReadOf)
    (place : ℕ) (g : Move)
    → AreMoved files reads after seen place g
    → MeanTheSame files reads after seen
    → ((k : ℕ) → k ≢ place → scene_at after seen k ≡ scene_at files reads k)
    × IsMovedScene g (scene_at files reads place) (scene_at after seen place)
