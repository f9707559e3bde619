-- How names are written: lower snake, upper snake, Pascal, and a Pascal name turned into an upper
-- snake one.
use Rattle.std.specs.Prelude.{ℕ, Bool, true, false, not, ◌&&◌, ◌||◌, ◌==◌, if◌then◌else◌, [], ◌∷◌, ◌++◌, Option, Some, None}
use Rattle.std.specs.Char.{is_ascii_alphanumeric, is_ascii_digit, is_ascii_lowercase, is_ascii_uppercase, to_ascii_uppercase}
use Rattle.std.specs.List.{list_all}
use Rattle.proto_base.specs.Ascii as ascii
use Rattle.proto_base.specs.Texts.{Text}

-- ---- lower snake, upper snake

-- no `_` stands at the end, and no two beside each other
abbrev pub are_apart : Text → Bool
are_apart [] = true
are_apart (b ∷ []) = not (b == ascii.underscore)
are_apart (b ∷ c ∷ rest) =
    not (b == ascii.underscore && c == ascii.underscore) && are_apart (c ∷ rest)

-- letters of one case, digits and `_`, a letter first, each `_` before something other than `_`
abbrev pub is_snake : (ℕ → Bool) → Text → Bool
is_snake is_letter [] = false
is_snake is_letter (b ∷ rest) =
    is_letter b
    && list_all (λ c. is_letter c || is_ascii_digit c || c == ascii.underscore) rest
    && are_apart (b ∷ rest)

-- a name as `foo_bar`: lower-case letters, digits and `_`, as above
abbrev pub is_lower_snake : Text → Bool
is_lower_snake word = is_snake is_ascii_lowercase word

-- a name as `FOO_BAR`: upper-case letters, digits and `_`, as above
abbrev pub is_upper_snake : Text → Bool
is_upper_snake word = is_snake is_ascii_uppercase word

-- ---- Pascal

-- a name as `FooBar`: letters and digits alone, an upper-case letter first
abbrev pub is_pascal : Text → Bool
is_pascal [] = false
is_pascal (b ∷ rest) = is_ascii_uppercase b && list_all is_ascii_alphanumeric rest

-- ---- from Pascal to upper snake

-- the text has a first byte, and it is a lower-case letter
abbrev pub begins_lower : Text → Bool
begins_lower [] = false
begins_lower (b ∷ rest) = is_ascii_lowercase b

-- a word begins at a character: an upper-case letter that is not first, does not follow `_`, and
-- follows a lower-case letter or a digit or stands before a lower-case letter
abbrev pub begins_word : Option ℕ → ℕ → Text → Bool
begins_word None b rest = false
begins_word (Some before) b rest =
    is_ascii_uppercase b && not (before == ascii.underscore)
    && (is_ascii_lowercase before || is_ascii_digit before || begins_lower rest)

-- the rest of a name in upper case, with `_` before each word that begins in it; the first is the
-- character before the rest, if there is one
abbrev pub upper_behind : Option ℕ → Text → Text
upper_behind before [] = []
upper_behind before (b ∷ rest) =
    (if begins_word before b rest then ascii.underscore ∷ [] else [])
    ++ to_ascii_uppercase b ∷ upper_behind (Some b) rest

-- a name in upper case, with `_` before each word but the first: `HTTPCode` gives `HTTP_CODE`
abbrev pub upper : Text → Text
upper word = upper_behind None word
