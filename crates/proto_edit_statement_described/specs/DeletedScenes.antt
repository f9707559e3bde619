-- What is read of files of which one loses a field.
use Rattle.std.specs.Prelude.{◌≡◌, ◌≢◌, ℕ, ◌<◌, List, length, slice_get}
use Rattle.std.specs.List.{Contains}
use Rattle.proto_text.specs.Tokens.{Lexeme}
use Rattle.proto_tree.specs.Moved.{Move}
use Rattle.proto_tree.specs.Tree.{Tree}
use Rattle.proto_files.specs.FilesRead.{AreRead, ReadOf, read_at}
use Rattle.proto_files.specs.GivenFiles.{FileOf, file_at}
use Rattle.proto_names_rules.specs.Linked.{IsLinked}
use Rattle.proto_names_rules.specs.Skeleton.{Source, Used}
use Rattle.proto_names_outline.specs.FromTree.{statement_uses}
use Rattle.proto_names_imports.specs.Links.{names_of_files}
use Rattle.proto_ast.specs.Scenes.{Scene}
use Rattle.proto_edit_statement_described.specs.SceneOf.{lexemes_of}
use Rattle.proto_edit_statement_described.specs.Deletions.{IsDeletedIn, Reservation, WrittenField, statement_of}
use Rattle.proto_edit_statement_described.specs.Files.{OthersStay, scene_at}
use Rattle.proto_edit_rules.specs.Statements.{tree_at}
use Rattle.proto_edit_statement_described.specs.Scenes.{HasTokens}
use Rattle.proto_edit_statement_laws.specs.Kept.{MeanTheSame}

-- One file is read of other tokens and as another tree. Of the tokens that are neither the field's
-- nor the reservation's, each stands at its moved index, apart from the others, and the first one
-- first; and no reference of the field begins at one of them.
pub record IsReadWithout
    (files : List FileOf) (reads : List ReadOf) (after : List FileOf) (seen : List ReadOf)
    (place : ℕ) (g k : Move) (w : WrittenField) (r : Reservation) (x : Tree) (without : List Lexeme)
    : Type 0 where
  pub read : AreRead files reads
  pub seen_are : AreRead after seen
  pub count : length after ≡ length files
  pub within : place < length files
  pub paths : (j : ℕ) → (file_at after j).path ≡ (file_at files j).path
  pub profiles : (j : ℕ) → (file_at after j).profile ≡ (file_at files j).profile
  pub files_stay : (j : ℕ) → j ≢ place → file_at after j ≡ file_at files j
  pub reads_stay : (j : ℕ) → j ≢ place → read_at seen j ≡ read_at reads j
  pub trees : IsDeletedIn g k w r x (tree_at reads place) (tree_at seen place)
  pub old : (i : ℕ) → slice_get (lexemes_of files reads place) (g i) ≡ slice_get without i
  pub new : (i : ℕ) → slice_get (lexemes_of after seen place) (k i) ≡ slice_get without i
  pub old_apart : (i j : ℕ) → g i ≡ g j → i ≡ j
  pub new_apart : (i j : ℕ) → k i ≡ k j → i ≡ j
  pub old_first : g 0 ≡ 0
  pub new_first : k 0 ≡ 0
  pub own : (around scope : List (Source ℕ)) (u : Used ℕ)
      → Contains (statement_uses around scope (statement_of w)) u
      → (i : ℕ)
      → u.first ≢ g i

-- Where each reference means what it meant, the scenes of the file have the tokens of one scene,
pub record HaveTokens
    (files : List FileOf) (reads : List ReadOf) (after : List FileOf) (seen : List ReadOf)
    (place : ℕ) (g k : Move) : Type 0 where
  pub middle : Scene
  pub old : HasTokens g middle (scene_at files reads place)
  pub new : HasTokens k middle (scene_at after seen place)

-- Where each reference means what it meant, the old and the new scene of the file have the
-- tokens of one scene, moved.
abbrev pub ScenesHaveTokens : Type 0
ScenesHaveTokens =
    (files : List FileOf) (reads : List ReadOf) (after : List FileOf) (seen : List ReadOf)
    (place : ℕ) (g k : Move) (w : WrittenField) (r : Reservation) (x : Tree) (without : List Lexeme)
    → IsReadWithout files reads after seen place g k w r x without
    → IsLinked (names_of_files files reads)
    → MeanTheSame files reads after seen
    → HaveTokens files reads after seen place g k

-- and each other file reads the same, and the extensions of all files stay.
abbrev pub OtherScenesStay : Type 0
OtherScenesStay =
    (files : List FileOf) (reads : List ReadOf) (after : List FileOf) (seen : List ReadOf)
    (place : ℕ) (g k : Move) (w : WrittenField) (r : Reservation) (x : Tree) (without : List Lexeme)
    → IsReadWithout files reads after seen place g k w r x without
    → IsLinked (names_of_files files reads)
    → MeanTheSame files reads after seen
    → OthersStay files reads after seen place
