-- Ranges as they are looked up: in order, each ending where it or one before it ends last.
use Rattle.std.specs.Prelude.{◌≡◌, ℕ, ℤ, ◌+◌, ◌<◌, ◌≤◌, int_le, Bool, true, false, List, length, get_or, take, Option, Some, None}
use Rattle.std.specs.List.{list_any, filter}
use Rattle.std.specs.List.Sorted.{IsPermutation}
use Rattle.proto_ast.specs.declared.ranges.RangeAt.{RangeAt}

-- a range holds a number: it does not end before it begins
abbrev pub has_numbers : RangeAt → Bool
has_numbers r = int_le r.first r.last

-- ranges are in the order of their first numbers
abbrev pub RangesAreInOrder : List RangeAt → Type 0
RangesAreInOrder rs = (i j : ℕ) (d : RangeAt) → i ≤ j → j < length rs
    → int_le (get_or rs i d).first (get_or rs j d).first ≡ true

-- one of the ranges ends at the number or past it
abbrev pub reach : ℤ → List RangeAt → Bool
reach n rs = list_any (λ r. int_le n r.last) rs

-- a range that is the last to end does so, where there is one
abbrev pub range_reaches : ℤ → Option RangeAt → Bool
range_reaches n None = false
range_reaches n (Some r) = int_le n r.last

-- the same ranges, each ending where it or one before it ends last
pub record AreRaised (rs raised : List RangeAt) : Type 0 where
  pub len : length raised ≡ length rs
  pub first : (k : ℕ) (d : RangeAt) → k < length rs
      → (get_or raised k d).first ≡ (get_or rs k d).first
  pub last : (k : ℕ) (d : RangeAt) (n : ℤ) → k < length rs
      → int_le n (get_or raised k d).last ≡ reach n (take (k + 1) rs)

-- an index of the ranges that have numbers
pub record IsRangeIndexOf (rs index : List RangeAt) : Type 0 where
  pub sorted : List RangeAt
  pub same : IsPermutation (filter has_numbers rs) sorted
  pub order : RangesAreInOrder sorted
  pub raised : AreRaised sorted index
