-- Tests over bytes: octal and hexadecimal digits, as the language specification has them.
use Rattle.std.specs.Prelude.{◌≡◌, ℕ, Bool, true, false, ◌&&◌, ◌||◌, ◌==◌, List, [], ◌∷◌, nat_le}
use Rattle.std.specs.List.{AllByRecursion}
use Rattle.proto_base.specs.Ascii as ascii
use Rattle.proto_text.specs.Classes.{is_digit}

-- each byte passes
abbrev pub EachByte : (ℕ → Bool) → List ℕ → Type 0
EachByte p bytes = AllByRecursion (λ b. p b ≡ true) bytes

-- no byte that passes stands first
abbrev pub Stops : (ℕ → Bool) → List ℕ → Type 0
Stops p [] = Unit {0}
Stops p (b ∷ bytes) = p b ≡ false

-- the byte is `\`
abbrev pub is_backslash : ℕ → Bool
is_backslash b = b == ascii.backslash

-- a digit 0 to 7
abbrev pub is_octal : ℕ → Bool
is_octal b = nat_le ascii.zero b && nat_le b ascii.seven

-- a digit 0 to 9, or a letter a to f or A to F
abbrev pub is_hex : ℕ → Bool
is_hex b =
    is_digit b || (nat_le ascii.lower_a b && nat_le b ascii.lower_f)
    || (nat_le ascii.upper_a b && nat_le b ascii.upper_f)
