-- Whether a full name is on the path of an options message, word by word; and whether a file is as
-- written.
use Rattle.std.specs.Prelude.{◌&&◌, Bool, true, false, [], ◌∷◌, Option, Some, None, codes}
use Rattle.std.specs.Str.{bytes_eq}
use Rattle.proto_ast.specs.Options.{is_one_of}
use Rattle.proto_base.specs.Texts.{Text}
use Rattle.proto_base.specs.declared.profile.Profile.{Profile}
use Rattle.proto_base.specs.declared.profile.Profile.TheVariants as profile
use Rattle.proto_custom_options.specs.CustomOptions.{options_messages}
use Rattle.proto_files.specs.GivenFiles.{FileOf}
use Rattle.proto_names_rules.specs.Joined.{joined}
use Rattle.proto_names_rules.specs.Names.{Name}

-- the text of what follows a word, if anything does
abbrev pub rest_text : Name → Option Text
rest_text [] = None
rest_text (word ∷ rest) = Some (joined (word ∷ rest))

-- what follows `google.protobuf` is on the path of an options message
abbrev pub is_fixed_in_protobuf : Name → Bool
is_fixed_in_protobuf [] = true
is_fixed_in_protobuf (word ∷ rest) = is_one_of options_messages word

-- what follows `google` is on the path of an options message
abbrev pub is_fixed_in_google : Name → Bool
is_fixed_in_google [] = true
is_fixed_in_google (word ∷ rest) = bytes_eq word (codes "protobuf") && is_fixed_in_protobuf rest

-- it is the language as written
abbrev pub is_as_written : Profile → Bool
is_as_written profile.Core = false
is_as_written profile.AsWritten = true

-- the file is as written
abbrev pub is_written : FileOf → Bool
is_written f = is_as_written f.profile
