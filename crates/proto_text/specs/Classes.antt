-- The bytes of a schema by what they may begin, after the letters and digits of the language
-- specification; `_` as a letter is a choice of this profile.
use Rattle.std.specs.Prelude.{ℕ, Bool, true, false, ◌&&◌, ◌||◌, ◌==◌, nat_le, if◌then◌else◌}
use Rattle.proto_base.specs.Ascii as ascii
use Rattle.proto_text.specs.declared.class.Class.{Class}
use Rattle.proto_text.specs.declared.class.Class.TheVariants.{Space, Letter, Digit, Quote, Mark, Slash, Other}

-- space, tab, line feed, vertical tab, form feed, carriage return
abbrev pub is_space : ℕ → Bool
is_space b = b == ascii.space || (nat_le ascii.tab b && nat_le b ascii.carriage_return)

-- an ASCII letter or `_`
abbrev pub is_letter : ℕ → Bool
is_letter b =
    (nat_le ascii.lower_a b && nat_le b ascii.lower_z)
    || (nat_le ascii.upper_a b && nat_le b ascii.upper_z) || b == ascii.underscore

-- a decimal digit, 0 to 9
abbrev pub is_digit : ℕ → Bool
is_digit b = nat_le ascii.zero b && nat_le b ascii.nine

-- one of ( ) , - . : ; < = > [ ] { } (`:` in the language as written alone)
abbrev pub is_mark : ℕ → Bool
is_mark b =
    b == ascii.open_parenthesis || b == ascii.close_parenthesis || b == ascii.comma
    || b == ascii.hyphen || b == ascii.dot || b == ascii.colon || b == ascii.semicolon
    || b == ascii.less || b == ascii.equals || b == ascii.greater || b == ascii.open_bracket
    || b == ascii.close_bracket || b == ascii.open_brace || b == ascii.close_brace

-- the one class of a byte
unfoldable pub class_of : ℕ → Class
class_of b =
    if is_space b then Space
    else (if is_letter b then Letter
    else (if is_digit b then Digit
    else (if b == ascii.quote || b == ascii.apostrophe then Quote
    else (if is_mark b then Mark
    else (if b == ascii.slash then Slash
    else Other)))))

-- a letter or a digit
abbrev pub extends_word : Class → Bool
extends_word Letter = true
extends_word Digit = true
extends_word Space = false
extends_word Quote = false
extends_word Mark = false
extends_word Slash = false
extends_word Other = false

-- an identifier character
abbrev pub is_identifier : ℕ → Bool
is_identifier b = extends_word (class_of b)
