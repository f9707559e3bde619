-- The index of a table: its words by their text, and its rows by the number above them and their
-- word, both in order.
use Rattle.std.specs.Prelude.{◌≡◌, ℕ, ◌<◌, Bool, ◌&&◌, ◌==◌, List, Option, position, string_bytes, String, map, take, length}
use Rattle.std.specs.declared.alloc.Global.{Global}
use Rattle.std.specs.Option.{option_and_then}
use Rattle.std.specs.Str.{bytes_eq}
use Rattle.std.specs.List.{All}
use Rattle.proto_names_table.specs.declared.index.Below.{Below}
use Rattle.proto_names_table.specs.declared.index.Index.{Index}

-- the place of a word, if it is there
abbrev pub word_place : List (String Global) → List ℕ → Option ℕ
word_place words word = position (λ k. bytes_eq word (string_bytes k)) words

-- this word below this number
abbrev pub is_below_number : ℕ → ℕ → Below → Bool
is_below_number above word b = (above == b.above) && (word == b.word)

-- the row of the name that stands with this word right below the name with a number
abbrev pub look_in : Index → ℕ → List ℕ → Option ℕ
look_in x above word =
    option_and_then (λ w. position (is_below_number above w) x.rows.keys)
    (word_place x.words.keys word)

-- for each row, the number above it
abbrev pub aboves_in : Index → List ℕ
aboves_in x = map (λ b. b.above) x.rows.keys

-- the word of each row is there
abbrev pub HasWords : Index → Type 0
HasWords x = All (λ b. b.word < length x.words.keys) x.rows.keys

-- what a contract sees of an index
abbrev pub keys_in : Index → List (String Global) × List Below
keys_in x = (x.words.keys, x.rows.keys)

-- the words and the rows of the first are the first ones of the second
pub record IsFrontOf (old new : Index) : Type 0 where
  pub words : take (length old.words.keys) new.words.keys ≡ old.words.keys
  pub rows : take (length old.rows.keys) new.rows.keys ≡ old.rows.keys

-- two indexes have the same words, each a text of its own, and the same rows
pub record AreSameKeys (one other : Index) : Type 0 where
  pub words : map string_bytes other.words.keys ≡ map string_bytes one.words.keys
  pub rows : other.rows.keys ≡ one.rows.keys
