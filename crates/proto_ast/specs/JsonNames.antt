-- The names of fields in JSON.
use Rattle.std.specs.Prelude.{ℕ, Bool, codes, is_some}
use Rattle.proto_case.specs.Camel.{written_or}
use Rattle.proto_case.specs.Digest.{digest_from}
use Rattle.proto_base.specs.Texts.{Text}
use Rattle.proto_ast.specs.Options.{text_option, value_named}
use Rattle.proto_ast.specs.Parts.{FieldOf}
use Rattle.proto_ast.specs.Scenes.{Scene, text, value}

-- the JSON name of a field: as its option `json_name` says, where that is a text
abbrev pub json_name_of : Scene → FieldOf → Text
json_name_of scene f =
    written_or (text_option (text scene) (value scene) (codes "json_name") f.options)
    (text scene f.name)

-- whether a field has an option `json_name`, whatever its value is
abbrev pub writes_json_name : Scene → FieldOf → Bool
writes_json_name scene f = is_some (value_named (text scene) (codes "json_name") f.options)

-- a number that equal names share
abbrev pub name_digest : Text → ℕ
name_digest name = digest_from 0 name
