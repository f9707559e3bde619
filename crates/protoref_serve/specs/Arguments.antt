-- The language of the schemas and the ROOT that a command line asks for.
use Rattle.std.specs.Prelude.{◌==◌, Bool, false, List, [], ◌∷◌, codes, if◌then◌else◌, Option, Some, None, option_map}
use Rattle.std.specs.List.{remove}
use Rattle.std.specs.Str.{bytes_eq}
use Rattle.proto_base.specs.Ascii as ascii
use Rattle.proto_base.specs.Texts.{Text}
use Rattle.proto_base.specs.declared.profile.Profile.{Profile}
use Rattle.proto_base.specs.declared.profile.Profile.TheVariants.{AsWritten, Core}

-- whether a word begins with `-`
abbrev pub is_option : Text → Bool
is_option [] = false
is_option (b ∷ bs) = b == ascii.hyphen

-- the ROOT that words ask for, of which the first is the program's name: none where there is no other,
-- and no answer where there are more, or where that is an option
abbrev pub root_asked : List Text → Option (Option Text)
root_asked [] = Some None
root_asked (name ∷ []) = Some None
root_asked (name ∷ word ∷ []) = if is_option word then None else Some (Some word)
root_asked (name ∷ word ∷ other ∷ words) = None

-- whether the first word behind the program's name asks for the language as written
abbrev pub is_as_written : List Text → Bool
is_as_written [] = false
is_as_written (name ∷ []) = false
is_as_written (name ∷ word ∷ words) = bytes_eq word (codes "--as-written")

-- the language and the ROOT that words ask for, of which the first is the program's name: the next may
-- ask for the language as written, and the others for the ROOT
abbrev pub asked : List Text → Option (Profile × Option Text)
asked words =
    if is_as_written words
    then option_map (λ root. (AsWritten, root)) (root_asked (remove words 1))
    else option_map (λ root. (Core, root)) (root_asked words)
