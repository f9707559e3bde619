-- A tree with other items in place of some, and all its indices moved by one map.
use Rattle.std.specs.Prelude.{◌≡◌, ◌⊎◌, ℕ, ◌+◌, ◌<◌, ◌≤◌, List, ◌++◌, length, slice_get, take, drop}
use Rattle.proto_base.specs.declared.profile.Profile.{Profile}
use Rattle.proto_text.specs.Segments.{moved}
use Rattle.proto_text.specs.Tokens.{Lexeme}
use Rattle.proto_tree.specs.declared.class.Class.TheVariants as class
use Rattle.proto_tree.specs.declared.context.Context.{Context}
use Rattle.proto_tree.specs.declared.context.Context.TheVariants as context
use Rattle.proto_tree.specs.declared.piece.Header.{Header}
use Rattle.proto_tree.specs.declared.piece.Statement.{Statement}
use Rattle.proto_tree.specs.Flat.{Fit, one, flat_statement, flat_header}
use Rattle.proto_tree.specs.Moved.{Move, move_header, move_statement, move_tree}
use Rattle.proto_tree.specs.Tree.{Tree, End, Leaf, Block, flat, statement_kind, header_kind, after, inside, IsWellFormed, last_of, joined_trees, Spells}
use Rattle.proto_tree.specs.Words.{classes_in}

-- The second tree is the first, moved, with the items of b in place of those of a: at one
-- place, where b may stand, and behind which stands what followed, if it could follow on a.
pub data IsExchanged (g : Move) (a b : Tree) : Context → Tree → Tree → Type 0 where
  Here : (c : Context) (rest : Tree)
      → IsWellFormed c b
      → (IsWellFormed (last_of c a) rest → IsWellFormed (last_of c b) rest)
      → IsExchanged g a b c (joined_trees a rest) (joined_trees b (move_tree g rest))
  Later : (c : Context) (s : Statement) (t u : Tree)
      → IsExchanged g a b (after c (statement_kind s)) t u
      → IsExchanged g a b c (Leaf s t) (Leaf (move_statement g s) u)
  Inside : (c : Context) (h : Header) (i : ℕ) (t u : Tree) (j : ℕ) (rest : Tree)
      → IsExchanged g a b (inside h) t u
      → IsExchanged g a b c (Block h i t j rest)
      (Block (move_header g h) (g i) u (g j) (move_tree g rest))
  Behind : (c : Context) (h : Header) (i : ℕ) (within : Tree) (j : ℕ) (t u : Tree)
      → IsExchanged g a b (after c (header_kind h)) t u
      → IsExchanged g a b c (Block h i within j t)
      (Block (move_header g h) (g i) (move_tree g within) (g j) u)

-- how many tokens stand before the place
abbrev pub before : {g : Move} {a b : Tree} {c : Context} {t u : Tree} → IsExchanged g a b c t u → ℕ
before (Here c rest fine on) = 0
before (Later c s t u r) = length (flat_statement s) + before r
before (Inside c h i t u j rest r) = length (flat_header h ++ one class.Open i) + before r
before (Behind c h i within j t u r) = length (flat (Block h i within j End)) + before r

-- Tokens before the place keep their index; those behind it are moved
-- by as many as come in more than go.
pub record MovesBy (g : Move) (front old new : ℕ) : Type 0 where
  pub stays : (k : ℕ) → k < front → g k ≡ k
  pub goes : (k : ℕ) → g (front + old + k) ≡ front + new + k

-- Where the tokens of b replace those of a, the second tree spells what comes out.
abbrev pub StatementsAreExchanged : Type 0
StatementsAreExchanged =
    (profile : Profile) (g : Move) (a b t u : Tree) (r : IsExchanged g a b context.Start t u)
    (front old new back : List Lexeme)
    → before r ≡ length front
    → length (flat a) ≡ length old
    → Fit (flat b) (classes_in profile (length front) new)
    → MovesBy g (length front) (length old) (length new)
    → Spells t (classes_in profile 0 (front ++ (old ++ back)))
    → Spells u (classes_in profile 0 (front ++ (new ++ back)))

-- A token that stays stands whole at its moved index.
abbrev pub LexemesAreMoved : Type 0
LexemesAreMoved = (ls ns : List Lexeme) (i j k : ℕ) → i ≤ j → j ≤ length ls → (k < i) ⊎ (j ≤ k)
    → slice_get (take i ls ++ (ns ++ drop j ls)) (moved i j (length ns) k) ≡ slice_get ls k

-- Read backwards: the first tree is the second, moved by the map that leads back, with the
-- items of a in place of those of b.
abbrev pub ExchangesAreReversed : Type 0
ExchangesAreReversed =
    (profile : Profile) (g back : Move) (a b t u : Tree)
    (r : IsExchanged g a b context.Start t u)
    (front old new rest : List Lexeme)
    → before r ≡ length front
    → length (flat a) ≡ length old
    → length (flat b) ≡ length new
    → MovesBy back (length front) (length new) (length old)
    → Spells t (classes_in profile 0 (front ++ (old ++ rest)))
    → Spells u (classes_in profile 0 (front ++ (new ++ rest)))
    → (v : IsExchanged back b a context.Start u t) × (before v ≡ before r)
