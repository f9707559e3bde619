-- A file that an edit of another one leaves: what is asked of it, so that it reads the same.
use Rattle.std.specs.Prelude.{◌≡◌, ℕ, List, Some}
use Rattle.std.specs.List.{Contains}
use Rattle.proto_base.specs.Texts.{Text}
use Rattle.proto_files.specs.FilesRead.{ReadOf}
use Rattle.proto_files.specs.GivenFiles.{FileOf, file_at}
use Rattle.proto_names_rules.specs.Skeleton.{Used}
use Rattle.proto_names_imports.specs.Links.{uses_of}
use Rattle.proto_edit_statement_described.specs.SceneOf.{enum_named, lexemes_of, meaning_of}
use Rattle.proto_edit_statement_laws.specs.Kept.{MeanTheSame}
use Rattle.proto_edit_statement_described.specs.Files.{scene_at}
use Rattle.proto_edit_rules.specs.Statements.{tree_at}

-- It has its language, its tokens and its tree, and what its references mean are the same enums.
pub record IsLeft
    (files : List FileOf) (reads : List ReadOf) (after : List FileOf) (seen : List ReadOf) (k : ℕ)
    : Type 0 where
  pub profile : (file_at after k).profile ≡ (file_at files k).profile
  pub lexemes : lexemes_of after seen k ≡ lexemes_of files reads k
  pub tree : tree_at seen k ≡ tree_at reads k
  pub enums : (u : Used ℕ)
      → Contains (uses_of reads k) u
      → (m : List Text)
      → meaning_of files reads k u ≡ Some m
      → enum_named after seen m ≡ enum_named files reads m

-- Where each reference means the same name, it reads the same.
abbrev pub OtherScenesReadTheSame : Type 0
OtherScenesReadTheSame =
    (files : List FileOf) (reads : List ReadOf) (after : List FileOf) (seen : List ReadOf) (k : ℕ)
    → MeanTheSame files reads after seen
    → IsLeft files reads after seen k
    → scene_at after seen k ≡ scene_at files reads k
