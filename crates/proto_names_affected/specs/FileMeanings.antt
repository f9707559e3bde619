-- The words that references begin with, told by the remainders of their keys.
use Rattle.std.specs.Prelude.{◌≡◌, ℕ, ◌<◌, ◌%◌, Bool, true, false, List, length, get_or}
use Rattle.std.specs.List.{Contains}
use Rattle.proto_names_table.specs.declared.ids.Meant.{Meant}

-- the place of a key among so many: its remainder
abbrev pub place_of : ℕ → ℕ → ℕ
place_of len key = key % len

-- a word whose key leaves the same remainder is noted
abbrev pub is_begun : List Bool → ℕ → Bool
is_begun begun key = get_or begun (place_of (length begun) key) false

-- the key of the first word of each reference is noted
pub record AreBegun (begun : List Bool) (ms : List Meant) : Type 0 where
  pub some : 0 < length begun
  pub each : (m : Meant) → Contains ms m → is_begun begun m.first ≡ true
