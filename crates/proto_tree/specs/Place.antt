-- Where a file that has no tree goes wrong.
use Rattle.std.specs.Prelude.{◌≡◌, ℕ, zero, suc, ◌+◌, ◌-◌, ◌≤◌, ◌<◌, List, [], ◌∷◌, ◌++◌, length, take}
use Rattle.proto_tree.specs.declared.class.Class.{Class}
use Rattle.proto_tree.specs.declared.class.Class.TheVariants as class
use Rattle.proto_tree.specs.declared.class.Lexeme.{Lexeme}
use Rattle.proto_tree.specs.Tree.{Tree, Spells}

-- braces open after a token; a close with no brace open closes none
abbrev pub open_after : ℕ → Class → ℕ
open_after d class.Open = d + 1
open_after d class.Close = d - 1
open_after d _ = d

-- braces open at the end
abbrev pub open_from : ℕ → List Lexeme → ℕ
open_from d [] = d
open_from d (l ∷ s) = open_from (open_after d l.class) s

-- braces open at the end of a whole file, or of a front of it
abbrev pub open_in : List Lexeme → ℕ
open_in s = open_from 0 s

-- n closing braces
abbrev pub closers : ℕ → List Lexeme
closers zero = []
closers (suc n) = record { class = class.Close; at = 0 } ∷ closers n

-- the first k tokens, with a close for each brace open in them, are those of a well-formed tree
abbrev pub IsGoodFront : List Lexeme → ℕ → Type 0
IsGoodFront tokens k = (t : Tree) × Spells t (take k tokens ++ closers (open_in (take k tokens)))

-- k is the longest good front
pub record IsLongestFront (tokens : List Lexeme) (k : ℕ) : Type 0 where
  pub within : k ≤ length tokens
  pub good : IsGoodFront tokens k
  pub longest : (m : ℕ) → k < m → m ≤ length tokens → IsGoodFront tokens m → ⊥

-- no more than 32 braces are open at once
abbrev pub IsShallow : List Lexeme → Type 0
IsShallow tokens = (k : ℕ) → k ≤ length tokens → open_in (take k tokens) ≤ 32

-- k is the first brace that is the 33rd open
pub record IsTooDeep (tokens : List Lexeme) (k : ℕ) : Type 0 where
  pub within : k < length tokens
  pub before : (m : ℕ) → m ≤ k → open_in (take m tokens) ≤ 32
  pub deep : open_in (take (k + 1) tokens) ≡ 33
