-- The last part of a package's name where it is a version: `v1`, `v2alpha`, `v3beta4`.
use Rattle.std.specs.Prelude.{Bool, true, false, not, ◌&&◌, ◌||◌, ◌==◌, nat_eq, [], ◌∷◌, length, drop, codes}
use Rattle.std.specs.Char.{is_ascii_digit}
use Rattle.std.specs.List.{list_all, prefix_len, starts_with, take_while}
use Rattle.proto_base.specs.Ascii as ascii
use Rattle.proto_base.specs.Texts.{Text}

-- nothing stands in the text
abbrev pub is_empty_text : Text → Bool
is_empty_text [] = true
is_empty_text (b ∷ rest) = false

-- a positive decimal without leading zero
abbrev pub is_positive : Text → Bool
is_positive [] = false
is_positive (b ∷ rest) =
    is_ascii_digit b && not (b == ascii.zero) && list_all is_ascii_digit rest

-- the text begins with a name, and behind that has nothing or a positive decimal
abbrev pub is_numbered : Text → Text → Bool
is_numbered name s =
    starts_with nat_eq s name
    && (is_empty_text (drop (length name) s) || is_positive (drop (length name) s))

-- nothing, or `alpha` or `beta` and behind that nothing or a positive decimal
abbrev pub is_stage : Text → Bool
is_stage s = is_empty_text s || is_numbered (codes "alpha") s || is_numbered (codes "beta") s

-- what stands behind the digits at the front of a text
abbrev pub behind_digits : Text → Text
behind_digits s = drop (prefix_len is_ascii_digit s) s

-- `v`, a positive decimal, and a stage
abbrev pub is_version : Text → Bool
is_version [] = false
is_version (b ∷ rest) =
    b == ascii.lower_v && is_positive (take_while is_ascii_digit rest)
    && is_stage (behind_digits rest)
