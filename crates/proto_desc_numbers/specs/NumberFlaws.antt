-- What is wrong with numbers and ranges: of fields, of the values of enums, and what is reserved.
use Rattle.std.specs.Prelude.{ℕ, ℤ, pos, negsuc, int_le, Bool, not, ◌&&◌, List, ◌++◌, map, flat_map, Option, Some, None}
use Rattle.std.specs.List.{list_any}
use Rattle.std.specs.Ordering.{int_eq}
use Rattle.proto_base.specs.declared.fault.FaultKind.TheVariants as kind
use Rattle.proto_tree.specs.declared.tree.Range.{Range}
use Rattle.proto_tree.specs.declared.tree.RangeEnd.{RangeEnd}
use Rattle.proto_tree.specs.declared.tree.RangeEnd.TheVariants as range_end
use Rattle.proto_tree.specs.declared.tree.UpTo.{UpTo}
use Rattle.proto_tree.specs.declared.tree.Signed.{Signed}
use Rattle.proto_tree.specs.declared.tree.Value.{Value}
use Rattle.proto_ast.specs.Parts.{FieldOf}
use Rattle.proto_ast.specs.Scenes.{Scene, number_at, signed_value}
use Rattle.proto_desc_numbers.specs.declared.flaw.Flaw.{Flaw}
use Rattle.proto_desc_numbers.specs.declared.numbers.NumberAt.{NumberAt}
use Rattle.proto_ast.specs.declared.ranges.RangeAt.{RangeAt}
use Rattle.proto_desc_numbers.specs.Flaws.{flaw_if, after_earlier, marked}

-- ---- numbers, by the first tokens that they stand at

-- the number of a field, which is one token
abbrev pub number_of_field : Scene → FieldOf → NumberAt
number_of_field scene f = record { token = f.number; number = number_at scene f.number }

-- the minus before a number, where there is one, and else the number's own token
abbrev pub number_start : Option ℕ → ℕ → ℕ
number_start None number = number
number_start (Some minus) number = minus

-- the first token of a number that may have a minus
abbrev pub first_of_signed : Signed → ℕ
first_of_signed s = number_start s.minus s.number

-- the number of a value of an enum, which may have a minus
abbrev pub number_of_value : Scene → Value → NumberAt
number_of_value scene v = record {
  token = first_of_signed v.number;
  number = signed_value scene v.number;
}

-- ---- ranges

-- the number behind `to`, where `max` is the most that there is
abbrev pub bound_of : {N : Type 0} → ℤ → (N → ℤ) → RangeEnd N → ℤ
bound_of most number (range_end.Number n) = number n
bound_of most number (range_end.Max i) = most

-- the last number of a range: one number is its own last
abbrev pub end_of : {N : Type 0} → ℤ → (N → ℤ) → N → Option (UpTo N) → ℤ
end_of most number first None = number first
end_of most number first (Some up_to) = bound_of most number up_to.end

-- the last field number, which is `max` of a message's ranges
abbrev pub most_field : ℤ
most_field = pos 536870911

-- the last number of a value of an enum, which is `max` of an enum's ranges
abbrev pub most_value : ℤ
most_value = pos 2147483647

-- the first number of a value of an enum
abbrev pub least_value : ℤ
least_value = negsuc 2147483647

-- the numbers of a range of a message, both of its bounds among them
abbrev pub range_of : Scene → Range ℕ → RangeAt
range_of scene r = record {
  token = r.first;
  first = number_at scene r.first;
  last = end_of most_field (number_at scene) r.first r.up_to;
}

-- the same of a range of an enum
abbrev pub enum_range_of : Scene → Range Signed → RangeAt
enum_range_of scene r = record {
  token = first_of_signed r.first;
  first = signed_value scene r.first;
  last = end_of most_value (signed_value scene) r.first r.up_to;
}

-- ---- sentences

-- a number is one of those from the least to the most, both among them
abbrev pub is_within : ℤ → ℤ → ℤ → Bool
is_within least most n = int_le least n && int_le n most

-- a number that a field may have: 1 to 536870911 without 19000 to 19999
abbrev pub is_field_number : ℤ → Bool
is_field_number n = is_within (pos 1) most_field n && not (is_within (pos 19000) (pos 19999) n)

-- a number that a value of an enum may have: -2147483648 to 2147483647
abbrev pub is_value_number : ℤ → Bool
is_value_number n = is_within least_value most_value n

-- 17 NumberRange at each number outside its limits
abbrev pub outside : (ℤ → Bool) → List NumberAt → List Flaw
outside limits ns = flat_map (λ n. flaw_if (not (limits n.number)) kind.NumberRange n.token) ns

-- both bounds of a range are within the limits, and it does not end before it begins
abbrev pub is_sound_range : ℤ → ℤ → RangeAt → Bool
is_sound_range least most r =
    is_within least most r.first && (is_within least most r.last && int_le r.first r.last)

-- 17 NumberRange at each range with a bound outside the limits, or that ends before it begins
abbrev pub broken_ranges : ℤ → ℤ → List RangeAt → List Flaw
broken_ranges least most rs =
    flat_map (λ r. flaw_if (not (is_sound_range least most r)) kind.NumberRange r.token) rs

-- a number is inside a range
abbrev pub is_inside : ℤ → RangeAt → Bool
is_inside n r = is_within r.first r.last n

-- 19 ReservedNumber at each number inside one of the ranges
abbrev pub reserved_numbers : List RangeAt → List NumberAt → List Flaw
reserved_numbers rs ns =
    flat_map (λ n. flaw_if (list_any (is_inside n.number) rs) kind.ReservedNumber n.token) ns

-- two ranges share a number: neither ends before it begins, or before the other
abbrev pub share : RangeAt → RangeAt → Bool
share a b =
    int_le a.first a.last
    && (int_le b.first b.last && (int_le a.first b.last && int_le b.first a.last))

-- 21 RangeOverlap at each range that shares a number with an earlier one
abbrev pub overlaps : List RangeAt → List Flaw
overlaps rs = marked kind.RangeOverlap (map (λ r. r.token) rs) (after_earlier share rs)

-- for each number, whether an earlier one is equal
abbrev pub repeated_numbers : List NumberAt → List Bool
repeated_numbers ns = after_earlier int_eq (map (λ n. n.number) ns)

-- ---- of a message

-- what is wrong with the numbers of a message's fields, given twice also (18 DuplicateNumber), and
-- with its ranges
abbrev pub field_number_flaws : List RangeAt → List NumberAt → List Flaw
field_number_flaws ranges numbers =
    outside is_field_number numbers
    ++ (marked kind.DuplicateNumber (map (λ n. n.token) numbers) (repeated_numbers numbers)
    ++ (reserved_numbers ranges numbers
    ++ (broken_ranges (pos 1) most_field ranges
    ++ overlaps ranges)))
