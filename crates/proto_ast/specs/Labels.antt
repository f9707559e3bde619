-- The labels of fields: `optional`, `required`, `repeated`.
use Rattle.std.specs.Prelude.{ℕ, Bool, false, Option, Some, None}
use Rattle.std.specs.Str.{bytes_eq}
use Rattle.proto_base.specs.Texts.{Text}
use Rattle.proto_ast.specs.Parts.{FieldOf}
use Rattle.proto_ast.specs.Scenes.{Scene, text}

-- whether there is a label and it is this word
abbrev pub is_label_word : Scene → Text → Option ℕ → Bool
is_label_word scene label None = false
is_label_word scene label (Some t) = bytes_eq (text scene t) label

-- whether a field has this label
abbrev pub has_label : Scene → Text → FieldOf → Bool
has_label scene label f = is_label_word scene label f.label
