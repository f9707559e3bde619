-- The names of a workspace as a forest: each name is one word more than another name, or a word.
use Rattle.std.specs.Prelude.{◌≡◌, ℕ, zero, suc, ◌<◌, ◌≤◌, List, [], ◌∷◌, ◌++◌, length, get_or, Option, Some}
use Rattle.proto_names_rules.specs.Joined.{IsPlain}
use Rattle.proto_base.specs.Ascii as ascii
use Rattle.proto_base.specs.Texts.{Text}

-- a word right below a name, as text: after the name and a dot, or alone below the empty name
abbrev pub under : Text → Text → Text
under [] word = word
under (b ∷ bs) word = (b ∷ bs) ++ ascii.dot ∷ word

-- the text of a name by its number: 0 is the empty name, and the others follow in order
abbrev pub front : List Text → ℕ → Text
front names zero = []
front names (suc k) = get_or names k []

-- a look-up by a name's number and the word below it answers the name that they make, where it is
-- one of them; each name is a word below an earlier one or the empty one, whose number `aboves` has
pub record IsForest (names : List Text) (aboves : List ℕ) (look : ℕ → Text → Option ℕ)
    : Type 0 where
  pub sound : (p : ℕ) (word : Text) (k : ℕ) → p ≤ length names → look p word ≡ Some k
      → (k < length names) × (get_or names k [] ≡ under (front names p) word) × IsPlain word
  pub complete : (p : ℕ) (word : Text) (k : ℕ) → p ≤ length names → IsPlain word
      → k < length names → get_or names k [] ≡ under (front names p) word → look p word ≡ Some k
  pub grown : (k : ℕ) → k < length names → (get_or aboves k 0 ≤ k)
      × ((word : Text) × IsPlain word
      × (get_or names k [] ≡ under (front names (get_or aboves k 0)) word))
