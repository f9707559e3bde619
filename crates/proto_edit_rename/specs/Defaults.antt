-- Defaults that mean a value of an enum, by texts: what a field's type means is a text of the link.
use Rattle.std.specs.Prelude.{ℕ, Bool, false, if◌then◌else◌, List, [], ◌∷◌, flat_map, Option, Some, None}
use Rattle.std.specs.Option.{option_and_then}
use Rattle.std.specs.Str.{bytes_eq}
use Rattle.proto_base.specs.Texts.{Text}
use Rattle.proto_tree.specs.declared.tree.FieldType.{FieldType}
use Rattle.proto_tree.specs.declared.tree.FieldType.TheVariants as field_type
use Rattle.proto_tree.specs.References.{first_of}
use Rattle.proto_names.specs.Linking.{LinkOf, meant_at, name_text}
use Rattle.proto_ast.specs.Parts.{BlockOf, FieldOf}
use Rattle.proto_edit_rules.specs.Rename.{default_words, fields_of_block}
use Rattle.proto_edit_rename.specs.declared.defaults.Asked.{Asked}

-- the text of the name that the reference with this first token means
abbrev pub text_meant : LinkOf → ℕ → ℕ → Option Text
text_meant l file first = option_and_then (name_text l) (meant_at l file first)

-- a text was found, and it is the name
abbrev pub is_found_name : Text → Option Text → Bool
is_found_name name None = false
is_found_name name (Some found) = bytes_eq found name

-- the type is a reference that means the name
abbrev pub type_means : LinkOf → ℕ → Text → FieldType → Bool
type_means l file name (field_type.Scalar t) = false
type_means l file name (field_type.Reference r) =
    is_found_name name (text_meant l file (first_of r.dot r.words))

-- those of these words that have the text
abbrev pub spelled : (ℕ → Text) → Text → List ℕ → List ℕ
spelled text old words = flat_map (λ w. if bytes_eq (text w) old then w ∷ [] else []) words

-- the field's defaults that have the text, where its type means the enum
abbrev pub defaults_of : (ℕ → Text) → (FieldType → Bool) → Text → FieldOf → List ℕ
defaults_of text means old f = if means f.kind then spelled text old (default_words text f) else []

-- those of the fields of a message, or of the extensions of an `extend`
abbrev pub defaults_in : (ℕ → Text) → (FieldType → Bool) → Text → BlockOf → List ℕ
defaults_in text means old b =
    flat_map (defaults_of text means old) (fields_of_block b.header b.within)

-- what is asked of a type
abbrev pub asked_type : Asked → FieldType → Bool
asked_type a kind = type_means a.link.now a.file a.enum_name.now kind

-- what is asked of a field
abbrev pub asked_defaults : (ℕ → Text) → Asked → FieldOf → List ℕ
asked_defaults text a f = defaults_of text (asked_type a) a.old.now f
