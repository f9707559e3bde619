-- Statements taken out of a tree, put into it or replaced by others, with the indices behind them
-- moved.
use Rattle.std.specs.Prelude.{◌≡◌, ℕ, ◌+◌, List, ◌++◌, length}
use Rattle.proto_text.specs.Tokens.{Lexeme}
use Rattle.proto_tree.specs.declared.piece.Statement.{Statement}
use Rattle.proto_tree.specs.declared.piece.Header.{Header}
use Rattle.proto_tree.specs.declared.context.Context.{Context}
use Rattle.proto_tree.specs.declared.context.Context.TheVariants as context
use Rattle.proto_tree.specs.declared.class.Class.TheVariants as class
use Rattle.proto_tree.specs.Flat.{Fit, one, flat_statement, flat_header}
use Rattle.proto_tree.specs.Tree.{Tree, End, Leaf, Block, flat, statement_kind, header_kind, after, inside, IsWellFormed, last_of, joined_trees, Spells}
use Rattle.proto_base.specs.declared.profile.Profile.{Profile}
use Rattle.proto_base.specs.declared.profile.Profile.TheVariants as profile
use Rattle.proto_tree.specs.Words.{classes_in}
use Rattle.proto_tree.specs.Moved.{Move, move_tree}

-- The second tree is the first with the items of b in place of those of a, at one place and in
-- a context where b may stand; what stands behind them is moved.
pub data ItemsAreReplaced (g : Move) (a b : Tree) : Context → Tree → Tree → Type 0 where
  Here : (c : Context) (rest : Tree) → IsWellFormed c b → last_of c b ≡ last_of c a
      → ItemsAreReplaced g a b c (joined_trees a rest) (joined_trees b (move_tree g rest))
  Later : (c : Context) (s : Statement) (t u : Tree)
      → ItemsAreReplaced g a b (after c (statement_kind s)) t u
      → ItemsAreReplaced g a b c (Leaf s t) (Leaf s u)
  Inside : (c : Context) (h : Header) (i : ℕ) (t u : Tree) (j : ℕ) (rest : Tree)
      → ItemsAreReplaced g a b (inside h) t u
      → ItemsAreReplaced g a b c (Block h i t j rest) (Block h i u (g j) (move_tree g rest))
  Behind : (c : Context) (h : Header) (i : ℕ) (within : Tree) (j : ℕ) (t u : Tree)
      → ItemsAreReplaced g a b (after c (header_kind h)) t u
      → ItemsAreReplaced g a b c (Block h i within j t) (Block h i within j u)

-- how many tokens stand before the place
abbrev pub tokens_before : {g : Move} {a b : Tree} {c : Context} {t u : Tree}
    → ItemsAreReplaced g a b c t u → ℕ
tokens_before (Here c rest fine last) = 0
tokens_before (Later c s t u r) = length (flat_statement s) + tokens_before r
tokens_before (Inside c h i t u j rest r) =
    length (flat_header h ++ one class.Open i) + tokens_before r
tokens_before (Behind c h i within j t u r) =
    length (flat (Block h i within j End)) + tokens_before r

-- Where the tokens of a are replaced by those of b, the second tree spells what comes out.
abbrev pub StatementsAreReplacedIn : Profile → Type 0
StatementsAreReplacedIn p =
    (g : Move) (a b t u : Tree) (r : ItemsAreReplaced g a b context.Start t u)
    (front old new back : List Lexeme)
    → tokens_before r ≡ length front → length (flat a) ≡ length old
    → Fit (flat b) (classes_in p (length front) new)
    → ((k : ℕ) → g (length front + length old + k) ≡ length front + length new + k)
    → Spells t (classes_in p 0 (front ++ (old ++ back)))
    → Spells u (classes_in p 0 (front ++ (new ++ back)))

-- the same in the core language
abbrev pub StatementsAreReplaced : Type 0
StatementsAreReplaced = StatementsAreReplacedIn profile.Core
