-- What number tokens stand for: decimal, octal behind a `0`, hexadecimal behind `0x` or `0X`.
use Rattle.std.specs.Prelude.{ℕ, ◌^◌, ℤ, pos, neg_ℤ, Bool, false, ◌==◌, ◌||◌, ◌&&◌, if◌then◌else◌, [], ◌∷◌, drop, is_some}
use Rattle.proto_text.specs.Strings.{number_in}
use Rattle.proto_base.specs.Ascii as ascii
use Rattle.proto_base.specs.Texts.{Text}
use Rattle.proto_tree.specs.declared.tree.Signed.{Signed}

-- whether it begins with `0x` or `0X`
abbrev pub is_hexadecimal : Text → Bool
is_hexadecimal (z ∷ x ∷ digits) = z == ascii.zero && (x == ascii.lower_x || x == ascii.upper_x)
is_hexadecimal _ = false

-- whether it begins with `0`: octal, where it is not hexadecimal
abbrev pub is_octal_number : Text → Bool
is_octal_number (z ∷ digits) = z == ascii.zero
is_octal_number [] = false

-- what a number token stands for
abbrev pub number_value : Text → ℕ
number_value w =
    if is_hexadecimal w then number_in 16 0 (drop 2 w)
    else (if is_octal_number w then number_in 8 0 w
    else number_in 10 0 w)

-- a number past every limit of the language
abbrev pub past : ℕ
past = 2 ^ 64

-- a number with its sign, where numbers are read so
abbrev pub signed_by : (Text → ℕ) → (ℕ → Text) → Signed → ℤ
signed_by number text s =
    if is_some s.minus then neg_ℤ (pos (number (text s.number)))
    else pos (number (text s.number))
