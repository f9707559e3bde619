-- The value of a string token: its text after escapes.
use Rattle.std.specs.Prelude.{◌≡◌, ◌↔◌, ℕ, zero, suc, ◌-◌, Bool, false, List, [], ◌∷◌, ◌++◌, length, take, Option, Some, None, option_map}
use Rattle.std.specs.Str.{IsUtf8, bytes_eq}
use Rattle.proto_base.specs.Texts.{Text}
use Rattle.proto_text.specs.Strings.{IsString, Means, unit_at}

-- The text of a string token is a quote, a body and a quote, and stands for what the body stands
-- for.
abbrev pub StandsFor : Text → Text → Type 0
StandsFor text value =
    (first last : ℕ) × (body : List ℕ) × (text ≡ first ∷ (body ++ last ∷ []))
    × Means body value

-- A text stands for one value at most.
abbrev pub OneValue : Type 0
OneValue = (text v w : List ℕ) → StandsFor text v → StandsFor text w → v ≡ w

-- A string token has a value, which is UTF-8.
abbrev pub StringsHaveValues : Type 0
StringsHaveValues =
    (text : List ℕ) → IsString text → (value : List ℕ) × StandsFor text value × IsUtf8 value

-- ---- the value, from left to right

-- the value of a unit, and what stands for the bytes behind it
abbrev pub unit_then : Option (ℕ × ℕ) → (ℕ → Option Text) → Option Text
unit_then None more = None
unit_then (Some found) more = option_map (λ values. found.0 ∷ values) (more (found.1 - 1))

-- what a body stands for behind its first n bytes
abbrev pub meaning_behind : ℕ → Text → Option Text
meaning_behind n [] = Some []
meaning_behind zero (b ∷ bytes) = unit_then (unit_at (b ∷ bytes)) (λ n. meaning_behind n bytes)
meaning_behind (suc n) (b ∷ bytes) = meaning_behind n bytes

-- the value of the text of a string token, if its escapes are allowed
unfoldable pub value_of : Text → Option Text
value_of [] = None
value_of (quote ∷ []) = None
value_of (quote ∷ b ∷ more) = meaning_behind 0 (take (length more) (b ∷ more))

-- A text stands for a value where this is the value from left to right, and nowhere else.
abbrev pub ValueIsValueOf : Type 0
ValueIsValueOf = (text value : List ℕ) → StandsFor text value ↔ (value_of text ≡ Some value)

-- there is a value, and it is this one
abbrev pub is_value : Option Text → Text → Bool
is_value None value = false
is_value (Some found) value = bytes_eq found value

-- the text of a string token has this value
abbrev pub says : Text → Text → Bool
says text value = is_value (value_of text) value
