-- The words of a reference, by the tokens that hold them.
use Rattle.std.specs.Prelude.{ℕ, ◌+◌, ◌*◌, Bool, true, false, List, ◌∷◌, map, Option, Some, None}
use Rattle.proto_tree.specs.declared.tree.Separated.{Separated}

-- the tokens of words joined by dots
abbrev pub dotted : Separated ℕ → List ℕ
dotted d = d.first ∷ map (λ b. b.item) d.rest

-- the first token of a reference: its leading dot, or its first word where it has none
abbrev pub first_of : Option ℕ → Separated ℕ → ℕ
first_of None words = words.first
first_of (Some dot) words = dot

-- the token of the word with this number: words stand a dot apart, in an absolute reference behind
-- its first dot
abbrev pub word_token : ℕ → Bool → ℕ → ℕ
word_token first false number = first + 2 * number
word_token first true number = first + 1 + 2 * number
