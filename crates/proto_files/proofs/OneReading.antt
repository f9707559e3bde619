-- A file is read in one way (for the crates above).
use Rattle.std.proofs.Common.{◌≡◌, ℕ, ◌<◌, List, length, map, ◌∙◌, ap}
use Rattle.proto_text.specs.declared.lexer.Token.{Token}
use Rattle.proto_text.proofs.Common.{Lexeme, lexeme_at, AreTokens, one_token_list}
use Rattle.proto_tree.proofs.Common.{Tree, ReadsIn, classed_in, one_tree}
use Rattle.proto_files.specs.Common.{FileOf, file_at, ReadOf, AreRead, read_at}

-- what answers for a file's tree
abbrev pub IsTreeOf : FileOf → Tree → Type 0
IsTreeOf f tree = (tokens : List Token) → AreTokens f.bytes tokens → ReadsIn f.profile f.bytes tokens tree

pub same_tree : (files : List FileOf) (reads : List ReadOf) (k : ℕ) (tree : Tree) → AreRead files reads → k < length files → IsTreeOf (file_at files k) tree → (read_at reads k).tree ≡ tree
same_tree files reads k tree are l t =
    one_tree (read_at reads k).tree tree (classed_in (file_at files k).profile (file_at files k).bytes (read_at reads k).tokens) (are.trees k l).spells (t (read_at reads k).tokens (are.tokens k l)).spells

-- the tokens of a file with their texts
pub record AreWordsAt (files : List FileOf) (k : ℕ) (tokens : List Token) (ls : List Lexeme) : Type 0 where
  pub within : k < length files
  pub tokens_are : AreTokens (file_at files k).bytes tokens
  pub words : ls ≡ map (lexeme_at (file_at files k).bytes) tokens

-- they are the same in any reading
pub same_words : (files : List FileOf) (reads : List ReadOf) (k : ℕ) (tokens : List Token) (ls : List Lexeme) → AreRead files reads → AreWordsAt files k tokens ls → ls ≡ map (lexeme_at (file_at files k).bytes) (read_at reads k).tokens
same_words files reads k tokens ls are f =
    f.words ∙ ap (map (lexeme_at (file_at files k).bytes)) (one_token_list (file_at files k).bytes tokens (read_at reads k).tokens f.tokens_are (are.tokens k f.within))
