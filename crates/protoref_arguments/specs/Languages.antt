-- The language of the schemas that a command line asks for.
use Rattle.std.specs.Prelude.{List, [], ◌∷◌, codes, if◌then◌else◌}
use Rattle.std.specs.Str.{bytes_eq}
use Rattle.proto_base.specs.Texts.{Text}
use Rattle.proto_base.specs.declared.profile.Profile.{Profile}
use Rattle.proto_base.specs.declared.profile.Profile.TheVariants.{AsWritten, Core}

-- the language that the words behind the program's name ask for, and the words of the command: the
-- first word may ask for the language as written
abbrev pub asked_in : List Text → Profile × List Text
asked_in [] = (Core, [])
asked_in (word ∷ words) =
    if bytes_eq word (codes "--as-written") then (AsWritten, words) else (Core, word ∷ words)
