-- Items that come into a tree, and their tokens among its tokens.
use Rattle.std.specs.Prelude.{◌≡◌, ℕ, ◌≤◌, List, ◌++◌, length, take, drop}
use Rattle.proto_base.specs.declared.profile.Profile.{Profile}
use Rattle.proto_text.specs.Segments.{moved}
use Rattle.proto_text.specs.Tokens.{Lexeme}
use Rattle.proto_tree.specs.declared.context.Context.TheVariants as context
use Rattle.proto_tree.specs.Tree.{Tree, End, Spells}
use Rattle.proto_tree.specs.Words.{classes_in}
use Rattle.proto_edit_statement_laws.specs.Exchanges.{IsExchanged, before}

-- The second tree and its tokens are the first with the items of b and their tokens put in
-- at one place, and all else moved.
pub record IsInsertion
    (profile : Profile) (place : ℕ) (b : Tree) (more : List Lexeme) (t : Tree) (ls : List Lexeme)
    (u : Tree) (ms : List Lexeme) : Type 0 where
  pub within : place ≤ length ls
  pub tokens : ms ≡ take place ls ++ (more ++ drop place ls)
  pub tree : IsExchanged (moved place place (length more)) End b context.Start t u
  pub at : before tree ≡ place
  pub before_spells : Spells t (classes_in profile 0 ls)
  pub after_spells : Spells u (classes_in profile 0 ms)
