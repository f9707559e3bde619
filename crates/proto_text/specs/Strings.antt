-- Strings: where they end and what they stand for, after the string literals of the language
-- specification. `\X`, `\u` and `\U` are left out, a choice of this profile.
use Rattle.std.specs.Prelude.{◌≡◌, ℕ, ◌+◌, ◌-◌, ◌*◌, ◌<◌, ◌≤◌, suc, min, Bool, true, false, not, List, [], ◌∷◌, ◌++◌, ◌==◌, ◌&&◌, ◌||◌, ◌⊎◌, nat_le, nat_lt, length, take, if◌then◌else◌, Option, Some, None, option_map}
use Rattle.std.specs.List.{prefix_len}
use Rattle.std.specs.Str.{IsUtf8}
use Rattle.proto_base.specs.Ascii as ascii
use Rattle.proto_base.specs.Texts.{Text}
use Rattle.proto_text.specs.declared.class.Class.TheVariants.{Quote}
use Rattle.proto_text.specs.declared.ending.Step.{Step}
use Rattle.proto_text.specs.declared.ending.Step.TheVariants.{Breaks, Ends, GoesOn}
use Rattle.proto_text.specs.declared.escape.Escape.{Escape}
use Rattle.proto_text.specs.declared.escape.Escape.TheVariants.{Octal, Hexadecimal, Single, Unknown}
use Rattle.proto_text.specs.Classes.{class_of, is_digit}
use Rattle.proto_text.specs.Bytes.{EachByte, Stops, is_octal, is_hex}

-- ---- where a string ends

-- What a byte of a string does: a line feed or U+0000 breaks it, a quote that no backslash escapes
-- ends it; else it goes on, and the next byte is escaped or not.
abbrev pub step_of : Bool → ℕ → ℕ → Step
step_of escaped quote b =
    if b == ascii.line_feed || b == ascii.nul then Breaks
    else (if escaped then GoesOn false
    else (if b == quote then Ends
    else GoesOn (b == ascii.backslash)))

-- a byte that neither breaks nor ends the string is of its body, if the bytes behind it are
abbrev pub body_after : Step → (Bool → Bool) → Bool
body_after Breaks more = false
body_after Ends more = false
body_after (GoesOn next) more = more next

-- the bytes may stand between the quotes; escaped says that a backslash escapes the first
abbrev pub is_body : Bool → ℕ → Text → Bool
is_body escaped quote [] = not escaped
is_body escaped quote (b ∷ bytes) =
    body_after (step_of escaped quote b) (λ next. is_body next quote bytes)

-- a quote, a body and the quote
abbrev pub IsQuoted : Text → ℕ → Text → Type 0
IsQuoted bytes quote body =
    (class_of quote ≡ Quote) × (bytes ≡ quote ∷ (body ++ quote ∷ []))
    × (is_body false quote body ≡ true)

-- ---- what it stands for

-- what the byte behind a backslash begins: octal digits, hexadecimal ones, or a single character
unfoldable pub escape_of : ℕ → Escape
escape_of b =
    if is_octal b then Octal
    else (if b == ascii.lower_x then Hexadecimal
    else (if b == ascii.lower_a then Single ascii.bell
    else (if b == ascii.lower_b then Single ascii.backspace
    else (if b == ascii.lower_t then Single ascii.tab
    else (if b == ascii.lower_n then Single ascii.line_feed
    else (if b == ascii.lower_v then Single ascii.vertical_tab
    else (if b == ascii.lower_f then Single ascii.form_feed
    else (if b == ascii.lower_r then Single ascii.carriage_return
    else (if b == ascii.quote || b == ascii.apostrophe || b == ascii.question_mark
    || b == ascii.backslash then Single b
    else Unknown)))))))))

-- the value of a digit: a to f and A to F are 10 to 15
abbrev pub digit_value : ℕ → ℕ
digit_value b =
    if is_digit b then b - ascii.zero
    else (if nat_le ascii.lower_a b then b - (ascii.lower_a - 10) else b - (ascii.upper_a - 10))

-- the number of the digits to a base, behind digits whose number is front
abbrev pub number_in : ℕ → ℕ → Text → ℕ
number_in base front [] = front
number_in base front (d ∷ ds) = number_in base (front * base + digit_value d) ds

-- a byte that is no backslash
abbrev pub IsPlainByte : Text → ℕ → Type 0
IsPlainByte bytes value = (bytes ≡ value ∷ []) × ((value == ascii.backslash) ≡ false)

-- a backslash and one character, which stand for one byte
abbrev pub IsSingle : Text → ℕ → Type 0
IsSingle bytes value =
    (b : ℕ) × (bytes ≡ ascii.backslash ∷ b ∷ []) × (escape_of b ≡ Single value)

-- one to limit digits, as many as there are
pub record IsDigits (is : ℕ → Bool) (limit : ℕ) (digits rest : Text) : Type 0 where
  pub each : EachByte is digits
  pub some : 0 < length digits
  pub short : length digits ≤ limit
  pub longest : length digits < limit → Stops is rest

-- a backslash and one to three octal digits, whose number is below 256
abbrev pub IsOctal : Text → ℕ → Text → Type 0
IsOctal bytes value rest =
    (digits : List ℕ) × (bytes ≡ ascii.backslash ∷ digits) × IsDigits is_octal 3 digits rest
    × (value ≡ number_in 8 0 digits) × (nat_lt value 256 ≡ true)

-- a backslash, `x` and one or two hexadecimal digits
abbrev pub IsHexadecimal : Text → ℕ → Text → Type 0
IsHexadecimal bytes value rest =
    (b : ℕ) × (digits : List ℕ)
    × (bytes ≡ ascii.backslash ∷ b ∷ digits) × (escape_of b ≡ Hexadecimal)
    × IsDigits is_hex 2 digits rest × (value ≡ number_in 16 0 digits) × (nat_lt value 256 ≡ true)

-- bytes before rest that stand for one byte
abbrev pub IsUnit : Text → ℕ → Text → Type 0
IsUnit bytes value rest =
    IsPlainByte bytes value
    ⊎ (IsSingle bytes value ⊎ (IsOctal bytes value rest ⊎ IsHexadecimal bytes value rest))

-- the text between the quotes stands for these bytes
abbrev pub Means : Text → Text → Type 0
Means text [] = text ≡ []
Means text (value ∷ values) =
    (bytes rest : List ℕ) × (text ≡ bytes ++ rest) × IsUnit bytes value rest × Means rest values

-- each escape is allowed, and what the text stands for is UTF-8
abbrev pub IsAllowed : Text → Type 0
IsAllowed body = (values : List ℕ) × Means body values × IsUtf8 values

-- the text of a string token: two like quotes, and between them allowed escapes and a UTF-8 value
abbrev pub IsString : Text → Type 0
IsString bytes = (quote : ℕ) × (body : List ℕ) × IsQuoted bytes quote body × IsAllowed body

-- ---- the same from left to right

-- a byte that ends the string is the last one; one that goes on is one more than those behind it
abbrev pub end_after : Step → (Bool → Option ℕ) → Option ℕ
end_after Breaks more = None
end_after Ends more = Some 1
end_after (GoesOn next) more = option_map suc (more next)

-- how many bytes there are through the quote that ends a string
unfoldable pub end_len : Bool → ℕ → Text → Option ℕ
end_len escaped quote [] = None
end_len escaped quote (b ∷ bytes) =
    end_after (step_of escaped quote b) (λ next. end_len next quote bytes)

-- the byte of the first octal digits, at most three, if it is below 256, and how many bytes they
-- are with the backslash before them
unfoldable pub octal_at : Text → Option (ℕ × ℕ)
octal_at bytes =
    let n = min 3 (prefix_len is_octal bytes) in
    let value = number_in 8 0 (take n bytes) in
    if nat_lt 0 n && nat_lt value 256 then Some (value, 1 + n) else None

-- the byte of the first hexadecimal digits, at most two, and how many bytes they are with the `\x`
-- before them
unfoldable pub hex_at : Text → Option (ℕ × ℕ)
hex_at bytes =
    let n = min 2 (prefix_len is_hex bytes) in
    let value = number_in 16 0 (take n bytes) in
    if nat_lt 0 n && nat_lt value 256 then Some (value, 2 + n) else None

-- the byte of an escape that b begins behind its backslash, and how many bytes it takes with that
abbrev pub escape_after : Escape → ℕ → Text → Option (ℕ × ℕ)
escape_after Octal b bytes = octal_at (b ∷ bytes)
escape_after Hexadecimal b bytes = hex_at bytes
escape_after (Single value) b bytes = Some (value, 2)
escape_after Unknown b bytes = None

-- the byte of the escape whose backslash these bytes stand behind, and how many bytes it takes
unfoldable pub escape_at : Text → Option (ℕ × ℕ)
escape_at [] = None
escape_at (b ∷ bytes) = escape_after (escape_of b) b bytes

-- the byte that the first bytes stand for, and how many these are
unfoldable pub unit_at : Text → Option (ℕ × ℕ)
unit_at [] = None
unit_at (b ∷ bytes) = if b == ascii.backslash then escape_at bytes else Some (b, 1)
