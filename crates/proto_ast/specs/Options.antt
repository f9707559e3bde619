-- The options of each language: which an element may have, and the kind of their values (a choice of
-- this product, from the options of descriptor.proto).
use Rattle.std.specs.Prelude.{ℕ, Bool, true, false, if◌then◌else◌, List, [], ◌∷◌, flat_map, find, Option, Some, None, option_map, is_some, codes}
use Rattle.std.specs.List.{list_any}
use Rattle.std.specs.Option.{option_and_then, option_or}
use Rattle.std.specs.Str.{bytes_eq}
use Rattle.proto_base.specs.Texts.{Text}
use Rattle.proto_base.specs.declared.profile.Profile.{Profile}
use Rattle.proto_base.specs.declared.profile.Profile.TheVariants as profile
use Rattle.proto_tree.specs.declared.tree.Constant.{Constant}
use Rattle.proto_tree.specs.declared.tree.Constant.TheVariants as constant
use Rattle.proto_ast.specs.Parts.{OptionOf}
use Rattle.proto_ast.specs.declared.options.Element.{Element}
use Rattle.proto_ast.specs.declared.options.Element.TheVariants as element
use Rattle.proto_ast.specs.declared.options.ValueKind.{ValueKind}
use Rattle.proto_ast.specs.declared.options.ValueKind.TheVariants as value_kind

-- whether a name is one of these
abbrev pub is_one_of : List Text → Text → Bool
is_one_of names name = list_any (bytes_eq name) names

-- the options of a file whose value is a text
abbrev pub file_texts : List Text
file_texts =
    codes "java_package" ∷ codes "java_outer_classname" ∷ codes "go_package"
    ∷ codes "csharp_namespace" ∷ codes "objc_class_prefix" ∷ codes "php_namespace" ∷ []

-- the options of a file that are true or false
abbrev pub file_truths : List Text
file_truths = codes "java_multiple_files" ∷ codes "cc_enable_arenas" ∷ codes "deprecated" ∷ []

-- what `optimize_for` may say
abbrev pub optimize_modes : List Text
optimize_modes = codes "SPEED" ∷ codes "CODE_SIZE" ∷ codes "LITE_RUNTIME" ∷ []

-- what `idempotency_level` may say
abbrev pub idempotency_levels : List Text
idempotency_levels = codes "IDEMPOTENCY_UNKNOWN" ∷ codes "NO_SIDE_EFFECTS" ∷ codes "IDEMPOTENT" ∷ []

-- what `ctype` may say
abbrev pub c_types : List Text
c_types = codes "STRING" ∷ codes "CORD" ∷ codes "STRING_PIECE" ∷ []

-- what `jstype` may say
abbrev pub js_types : List Text
js_types = codes "JS_NORMAL" ∷ codes "JS_STRING" ∷ codes "JS_NUMBER" ∷ []

-- the kind, where the name is one of these; else another kind
abbrev pub kind_if : List Text → ValueKind → Option ValueKind → Text → Option ValueKind
kind_if names kind other name = if is_one_of names name then Some kind else other

-- the kind of the value of an element's option, where the element may have the option in the core
-- language
abbrev pub value_kind_of : Element → Text → Option ValueKind
value_kind_of element.File name =
    kind_if file_texts value_kind.Text
    (kind_if file_truths value_kind.Truth
    (kind_if (codes "optimize_for" ∷ []) value_kind.OptimizeMode None name) name) name
value_kind_of element.Message name = kind_if (codes "deprecated" ∷ []) value_kind.Truth None name
value_kind_of element.Service name = kind_if (codes "deprecated" ∷ []) value_kind.Truth None name
value_kind_of element.EnumValue name = kind_if (codes "deprecated" ∷ []) value_kind.Truth None name
value_kind_of element.Field name =
    kind_if (codes "deprecated" ∷ codes "packed" ∷ []) value_kind.Truth
    (kind_if (codes "json_name" ∷ []) value_kind.Text
    (kind_if (codes "default" ∷ []) value_kind.Default None name) name) name
value_kind_of element.Extension name =
    kind_if (codes "deprecated" ∷ codes "packed" ∷ []) value_kind.Truth
    (kind_if (codes "default" ∷ []) value_kind.Default None name) name
value_kind_of element.Enum name =
    kind_if (codes "allow_alias" ∷ codes "deprecated" ∷ []) value_kind.Truth None name
value_kind_of element.Method name =
    kind_if (codes "deprecated" ∷ []) value_kind.Truth
    (kind_if (codes "idempotency_level" ∷ []) value_kind.IdempotencyLevel None name) name

-- the options of a file as written that the core language has not, and whose value is a text
abbrev pub written_file_texts : List Text
written_file_texts =
    codes "ruby_package" ∷ codes "swift_prefix" ∷ codes "php_class_prefix"
    ∷ codes "php_metadata_namespace" ∷ []

-- those that are true or false
abbrev pub written_file_truths : List Text
written_file_truths =
    codes "java_generate_equals_and_hash" ∷ codes "java_generic_services"
    ∷ codes "java_string_check_utf8" ∷ codes "cc_generic_services"
    ∷ codes "py_generic_services" ∷ codes "php_generic_services" ∷ []

-- those of a field or an extension that are true or false
abbrev pub written_field_truths : List Text
written_field_truths = codes "lazy" ∷ codes "unverified_lazy" ∷ codes "weak" ∷ []

-- the same of the options that the language as written has besides
abbrev pub written_kind_of : Element → Text → Option ValueKind
written_kind_of element.File name =
    kind_if written_file_texts value_kind.Text
    (kind_if written_file_truths value_kind.Truth None name) name
written_kind_of element.Field name =
    kind_if written_field_truths value_kind.Truth
    (kind_if (codes "ctype" ∷ []) value_kind.CType
    (kind_if (codes "jstype" ∷ []) value_kind.JsType None name) name) name
written_kind_of element.Extension name =
    kind_if written_field_truths value_kind.Truth
    (kind_if (codes "ctype" ∷ []) value_kind.CType
    (kind_if (codes "jstype" ∷ []) value_kind.JsType None name) name) name
written_kind_of element.Message name =
    kind_if (codes "no_standard_descriptor_accessor" ∷ []) value_kind.Truth None name
written_kind_of element.Service name = None
written_kind_of element.EnumValue name = None
written_kind_of element.Enum name = None
written_kind_of element.Method name = None

-- the same of all options that a language has
abbrev pub value_kind_as : Profile → Element → Text → Option ValueKind
value_kind_as profile.Core on name = value_kind_of on name
value_kind_as profile.AsWritten on name =
    option_or (value_kind_of on name) (written_kind_of on name)

-- ---- values

-- the text that a value is: the values of its strings, one behind the other
abbrev pub text_of_constant : (ℕ → Text) → Constant → Option Text
text_of_constant value (constant.Text j) = Some (flat_map value (j.first ∷ j.rest))
text_of_constant value (constant.Word w) = None
text_of_constant value (constant.Number n) = None

-- the word that a value is
abbrev pub word_of : (ℕ → Text) → Constant → Option Text
word_of text (constant.Word w) = Some (text w)
word_of text (constant.Text j) = None
word_of text (constant.Number n) = None

-- the truth that a word names, if it names one
abbrev pub truth_named : Text → Option Bool
truth_named w =
    if bytes_eq w (codes "true") then Some true
    else (if bytes_eq w (codes "false") then Some false else None)

-- the truth that a value is: `true` or `false`
abbrev pub truth_of : (ℕ → Text) → Constant → Option Bool
truth_of text c = option_and_then truth_named (word_of text c)

-- there is a truth value, and it is true
abbrev pub is_true : Option Bool → Bool
is_true None = false
is_true (Some b) = b

-- whether there is a word and it is one of these
abbrev pub is_word_of : List Text → Option Text → Bool
is_word_of names None = false
is_word_of names (Some w) = is_one_of names w

-- whether a value is a text
abbrev pub is_text_value : Constant → Bool
is_text_value (constant.Text j) = true
is_text_value (constant.Word w) = false
is_text_value (constant.Number n) = false

-- whether a value is of the kind (what may be a default, the field's type says)
abbrev pub is_of_kind : (ℕ → Text) → ValueKind → Constant → Bool
is_of_kind text value_kind.Text c = is_text_value c
is_of_kind text value_kind.Truth c = is_some (truth_of text c)
is_of_kind text value_kind.OptimizeMode c = is_word_of optimize_modes (word_of text c)
is_of_kind text value_kind.IdempotencyLevel c = is_word_of idempotency_levels (word_of text c)
is_of_kind text value_kind.CType c = is_word_of c_types (word_of text c)
is_of_kind text value_kind.JsType c = is_word_of js_types (word_of text c)
is_of_kind text value_kind.Default c = true

-- whether there is a kind and a value is of it
abbrev pub fits_kind : (ℕ → Text) → Option ValueKind → Constant → Bool
fits_kind text None c = false
fits_kind text (Some kind) c = is_of_kind text kind c

-- whether the element may have the option in a language, with such a value
abbrev pub is_allowed : Profile → (ℕ → Text) → Element → OptionOf → Bool
is_allowed p text on o = fits_kind text (value_kind_as p on (text o.name)) o.value

-- ---- what options say

-- whether an option has this name
abbrev pub is_named : (ℕ → Text) → Text → OptionOf → Bool
is_named text name o = bytes_eq (text o.name) name

-- the value of the first option of a name
abbrev pub value_named : (ℕ → Text) → Text → List OptionOf → Option Constant
value_named text name options = option_map (λ o. o.value) (find (is_named text name) options)

-- what the first option of a name says, where it is true or false
abbrev pub truth_option : (ℕ → Text) → Text → List OptionOf → Option Bool
truth_option text name options = option_and_then (truth_of text) (value_named text name options)

-- the same where it is a word
abbrev pub word_option : (ℕ → Text) → Text → List OptionOf → Option Text
word_option text name options = option_and_then (word_of text) (value_named text name options)

-- the same where it is a text
abbrev pub text_option : (ℕ → Text) → (ℕ → Text) → Text → List OptionOf → Option Text
text_option text value name options =
    option_and_then (text_of_constant value) (value_named text name options)
