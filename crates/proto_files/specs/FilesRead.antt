-- What is read of the files of a workspace: their tokens and their trees.
use Rattle.std.specs.Prelude.{◌≡◌, ℕ, ◌<◌, List, [], length, get_or, slice_index_or}
use Rattle.proto_text.specs.declared.lexer.Token.{Token}
use Rattle.proto_text.specs.Tokens.{AreTokens}
use Rattle.proto_tree.specs.Reads.{ReadsIn}
use Rattle.proto_tree.specs.Tree.{Tree, End}
use Rattle.proto_files.specs.GivenFiles.{FileOf, file_at}

-- what is read of a file
pub record ReadOf : Type 0 where
  pub tokens : List Token
  pub tree : Tree

-- what is read of the file at a place, counted from 0
abbrev pub read_at : List ReadOf → ℕ → ReadOf
read_at reads file = slice_index_or reads file (record { tokens = []; tree = End })

-- these are the tokens and the trees of the files
pub record AreRead (files : List FileOf) (reads : List ReadOf) : Type 0 where
  pub same : length reads ≡ length files
  pub tokens : (k : ℕ) → k < length files
      → AreTokens (file_at files k).bytes (read_at reads k).tokens
  pub trees : (k : ℕ) → k < length files
      → ReadsIn (file_at files k).profile (file_at files k).bytes (read_at reads k).tokens
      (read_at reads k).tree

-- each element of a list, by its index
abbrev pub Each : {A : Type 0} → (ℕ → A → Type 0) → List A → Type 0
Each {A} P xs = (k : ℕ) (d : A) → k < length xs → P k (get_or xs k d)
