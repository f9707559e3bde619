-- Camel case: the names of fields in JSON, and of the messages that stand for a map field's pairs.
use Rattle.std.specs.Prelude.{Bool, true, false, Option, Some, None, ◌==◌, if◌then◌else◌, [], ◌∷◌, ◌++◌, codes}
use Rattle.std.specs.Char.{to_ascii_uppercase}
use Rattle.proto_base.specs.Ascii as ascii
use Rattle.proto_base.specs.Texts.{Text}

-- each `_` is left out, and the character after it is in upper case, as is the first where the
-- flag says so
abbrev pub camel_from : Bool → Text → Text
camel_from up [] = []
camel_from up (b ∷ bs) =
    if b == ascii.underscore then camel_from true bs
    else ((if up then to_ascii_uppercase b else b) ∷ camel_from false bs)

-- the JSON name of a word: no `_`, and the character after one in upper case
abbrev pub json_word : Text → Text
json_word word = camel_from false word

-- the name that is written, if one is; else the JSON name of the word
abbrev pub written_or : Option Text → Text → Text
written_or None word = json_word word
written_or (Some name) word = name

-- the map field's name without each `_`, the character after one in upper case, as is the first,
-- and `Entry` behind it
abbrev pub entry_name : Text → Text
entry_name word = camel_from true word ++ codes "Entry"
