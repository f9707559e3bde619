-- The field that has a token as its default, and the value of an enum that a word is.
use Rattle.std.specs.Prelude.{ℕ, Bool, false, ◌==◌, ◌&&◌, List, [], ◌∷◌, find, codes, Option, None, option_map}
use Rattle.std.specs.List.{list_any}
use Rattle.std.specs.Option.{option_and_then, option_or}
use Rattle.std.specs.Str.{bytes_eq}
use Rattle.proto_base.specs.Texts.{Text}
use Rattle.proto_tree.specs.References.{first_of}
use Rattle.proto_tree.specs.Tree.{Tree}
use Rattle.proto_tree.specs.declared.tree.Constant.{Constant}
use Rattle.proto_tree.specs.declared.tree.Constant.TheVariants as constant
use Rattle.proto_tree.specs.declared.tree.FieldType.{FieldType}
use Rattle.proto_tree.specs.declared.tree.FieldType.TheVariants as field_type
use Rattle.proto_names.specs.Linking.{LinkOf, meant_at}
use Rattle.proto_ast.specs.Options.{is_named}
use Rattle.proto_ast.specs.Parts.{BlockOf, FieldOf, OptionOf, values_in}
use Rattle.proto_resolved.specs.SceneOf.{is_enum_at}
use Rattle.proto_edit_rules.specs.Rename.{fields_of_block}

-- the constant is the word at this token
abbrev pub is_word : ℕ → Constant → Bool
is_word token (constant.Word w) = w == token
is_word token (constant.Number n) = false
is_word token (constant.Text j) = false

-- the option is a default, the word at this token
abbrev pub is_default : (ℕ → Text) → ℕ → OptionOf → Bool
is_default text token o = is_named text (codes "default") o && is_word token o.value

-- the field has it as a default
abbrev pub has_default : (ℕ → Text) → ℕ → FieldOf → Bool
has_default text token f = list_any (is_default text token) f.options

-- the first field or extension of a block that has it
abbrev pub field_in : (ℕ → Text) → ℕ → BlockOf → Option FieldOf
field_in text token b = find (has_default text token) (fields_of_block b.header b.within)

-- the first of these blocks
abbrev pub first_field : (ℕ → Text) → ℕ → List BlockOf → Option FieldOf
first_field text token [] = None
first_field text token (b ∷ bs) = option_or (field_in text token b) (first_field text token bs)

-- the row of the name that a type means, where it is a reference
abbrev pub row_of_type : LinkOf → ℕ → FieldType → Option ℕ
row_of_type l file (field_type.Scalar t) = None
row_of_type l file (field_type.Reference r) = meant_at l file (first_of r.dot r.words)

-- the token of the first value with this word
abbrev pub value_in : (ℕ → Text) → Text → Tree → Option ℕ
value_in text word within =
    option_map (λ v. v.name) (find (λ v. bytes_eq (text v.name) word) (values_in within))

-- the same of the first enum whose name is at the token
abbrev pub value_of_enum : (ℕ → Text) → Text → ℕ → List BlockOf → Option ℕ
value_of_enum text word token bs =
    option_and_then (λ b. value_in text word b.within)
    (find (λ b. is_enum_at token b.header) bs)
