-- What is wrong with one field, or one extension: its label, its type, its options and its default.
use Rattle.std.specs.Prelude.{ℕ, ℤ, pos, negsuc, ◌^◌, ◌-◌, Bool, false, not, ◌&&◌, ◌||◌, if◌then◌else◌, List, [], ◌∷◌, ◌++◌, map, flat_map, find, Option, Some, None, is_some, is_none, codes}
use Rattle.std.specs.Str.{bytes_eq}
use Rattle.proto_base.specs.Texts.{Text}
use Rattle.proto_base.specs.declared.fault.FaultKind.TheVariants as kind
use Rattle.proto_tree.specs.declared.tree.Constant.{Constant}
use Rattle.proto_tree.specs.declared.tree.Constant.TheVariants as constant
use Rattle.proto_tree.specs.declared.tree.FieldType.{FieldType}
use Rattle.proto_tree.specs.declared.tree.FieldType.TheVariants as field_type
use Rattle.proto_tree.specs.References.{first_of}
use Rattle.proto_ast.specs.Labels.{has_label}
use Rattle.proto_ast.specs.Options.{is_allowed, is_named, is_one_of, is_true, is_word_of, truth_of, word_of}
use Rattle.proto_ast.specs.Parts.{FieldOf, OptionOf}
use Rattle.proto_ast.specs.Scenes.{Scene, EnumOf, signed_value, enum_meant, text}
use Rattle.proto_ast.specs.declared.options.Element.{Element}
use Rattle.proto_ast.specs.declared.options.Element.TheVariants as element
use Rattle.proto_desc_numbers.specs.declared.flaw.Flaw.{Flaw}
use Rattle.proto_desc_numbers.specs.Flaws.{flaw_if, after_earlier, marked}
use Rattle.proto_desc_numbers.specs.NumberFlaws.{is_within, most_value, least_value}

-- ---- options of any element

-- 27 BadOption at each option that the element does not have in the file's language, or whose value
-- is of another kind
abbrev pub misplaced_options : Scene → Element → List OptionOf → List Flaw
misplaced_options scene on options =
    flat_map (λ o. flaw_if
    (not (is_allowed scene.profile (text scene) on o)) kind.BadOption o.name) options

-- 27 BadOption at each option that an earlier one of the element names
abbrev pub repeated_options : Scene → List OptionOf → List Flaw
repeated_options scene options =
    marked kind.BadOption (map (λ o. o.name) options)
    (after_earlier bytes_eq (map (λ o. text scene o.name) options))

-- what is wrong with the options of an element, but for those that do not fit a field's type
abbrev pub option_flaws : Scene → Element → List OptionOf → List Flaw
option_flaws scene on options = misplaced_options scene on options ++ repeated_options scene options

-- ---- types

-- the type's first token
abbrev pub type_token : FieldType → ℕ
type_token (field_type.Scalar t) = t
type_token (field_type.Reference r) = first_of r.dot r.words

-- the enum that is a field's type, or that of a map field's values, where it is one
abbrev pub enum_of_type : Scene → FieldType → Option EnumOf
enum_of_type scene (field_type.Scalar t) = None
enum_of_type scene (field_type.Reference r) = enum_meant scene r

-- ---- labels

-- a proto2 field that is no map and in no oneof has no label
abbrev pub lacks_label : Scene → FieldOf → Bool
lacks_label scene f =
    not scene.is_proto3 && (is_none f.label && (is_none f.map_key && is_none f.oneof))

-- 31 NotInProto3 at the label of a field of a proto3 file that is `required`
abbrev pub required_flaws : Scene → Option ℕ → List Flaw
required_flaws scene None = []
required_flaws scene (Some t) =
    flaw_if (scene.is_proto3 && bytes_eq (text scene t) (codes "required")) kind.NotInProto3 t

-- ---- maps

-- the scalar types that no map's key is of
abbrev pub no_map_keys : List Text
no_map_keys = codes "float" ∷ codes "double" ∷ codes "bytes" ∷ []

-- 26 BadMap at the type of a map's key, where it is float, double or bytes
abbrev pub map_key_flaws : Scene → Option ℕ → List Flaw
map_key_flaws scene None = []
map_key_flaws scene (Some t) = flaw_if (is_one_of no_map_keys (text scene t)) kind.BadMap t

-- ---- enums

-- there is an enum, and its first value is not 0
abbrev pub is_past_zero : Option EnumOf → Bool
is_past_zero None = false
is_past_zero (Some e) = e.starts_past_zero

-- the values of a map field are of an enum whose first value is not 0
abbrev pub starts_wrong : Scene → FieldOf → Bool
starts_wrong scene f = is_some f.map_key && is_past_zero (enum_of_type scene f.kind)

-- there is an enum, and it is of a proto2 file
abbrev pub is_of_proto2 : Option EnumOf → Bool
is_of_proto2 None = false
is_of_proto2 (Some e) = not e.is_proto3

-- a field or a map's value of a proto3 file has an enum of a proto2 file
abbrev pub has_closed_enum : Scene → FieldOf → Bool
has_closed_enum scene f = scene.is_proto3 && is_of_proto2 (enum_of_type scene f.kind)

-- ---- `packed`

-- a scalar type whose repeated values cannot be packed: string or bytes
abbrev pub is_unpackable : Text → Bool
is_unpackable scalar = is_one_of (codes "string" ∷ codes "bytes" ∷ []) scalar

-- a type whose repeated values can be packed: numeric, bool or an enum
abbrev pub is_packable_type : Scene → FieldType → Bool
is_packable_type scene (field_type.Scalar t) = not (is_unpackable (text scene t))
is_packable_type scene (field_type.Reference r) = is_some (enum_meant scene r)

-- a repeated field of such a type may have `packed` (a map field has no label)
abbrev pub may_be_packed : Scene → FieldOf → Bool
may_be_packed scene f = has_label scene (codes "repeated") f && is_packable_type scene f.kind

-- `packed`, of any value, at a field that may not have it
abbrev pub is_packed_misfit : Scene → FieldOf → OptionOf → Bool
is_packed_misfit scene f o =
    is_named (text scene) (codes "packed") o && not (may_be_packed scene f)

-- ---- `jstype`

-- what `jstype` may say of whole numbers of 64 bits alone
abbrev pub other_js_types : List Text
other_js_types = codes "JS_STRING" ∷ codes "JS_NUMBER" ∷ []

-- an option says that numbers of 64 bits have another type in JavaScript
abbrev pub asks_js_type : (ℕ → Text) → OptionOf → Bool
asks_js_type text o =
    is_named text (codes "jstype") o && is_word_of other_js_types (word_of text o.value)

-- the scalar types of whole numbers of 64 bits
abbrev pub long_types : List Text
long_types =
    codes "int64" ∷ codes "uint64" ∷ codes "sint64" ∷ codes "fixed64" ∷ codes "sfixed64" ∷ []

-- a type of whole numbers of 64 bits
abbrev pub is_long_type : Scene → FieldType → Bool
is_long_type scene (field_type.Scalar t) = is_one_of long_types (text scene t)
is_long_type scene (field_type.Reference r) = false

-- a field of such a type may have another type in JavaScript (a map field is of its entries)
abbrev pub may_have_js_type : Scene → FieldOf → Bool
may_have_js_type scene f = is_none f.map_key && is_long_type scene f.kind

-- another type in JavaScript for a field that may not have one
abbrev pub is_js_type_misfit : Scene → FieldOf → OptionOf → Bool
is_js_type_misfit scene f o = asks_js_type (text scene) o && not (may_have_js_type scene f)

-- ---- `lazy` and `unverified_lazy`

-- the options that say that a message is read only when it is asked for
abbrev pub lazy_options : List Text
lazy_options = codes "lazy" ∷ codes "unverified_lazy" ∷ []

-- an option says so
abbrev pub asks_lazy : (ℕ → Text) → OptionOf → Bool
asks_lazy text o = is_one_of lazy_options (text o.name) && is_true (truth_of text o.value)

-- a type that is a message: a reference that means no enum
abbrev pub is_message_type : Scene → FieldType → Bool
is_message_type scene (field_type.Scalar t) = false
is_message_type scene (field_type.Reference r) = not (is_some (enum_meant scene r))

-- a field of such a type may be read so, and so may a map field, of its entries
abbrev pub may_be_lazy : Scene → FieldOf → Bool
may_be_lazy scene f = is_some f.map_key || is_message_type scene f.kind

-- such an option of a field that may not be read so
abbrev pub is_lazy_misfit : Scene → FieldOf → OptionOf → Bool
is_lazy_misfit scene f o = asks_lazy (text scene) o && not (may_be_lazy scene f)

-- ---- options that a field's type rules out

-- an option that a field of this type may not have
abbrev pub is_misfit : Scene → FieldOf → OptionOf → Bool
is_misfit scene f o =
    (is_packed_misfit scene f o || is_js_type_misfit scene f o) || is_lazy_misfit scene f o

-- 27 BadOption at each option that a field of this type may not have: a `packed` of any value, a
-- `jstype` that asks for another type, and what is to be read only when it is asked for (where a
-- language has no such option, it is one already)
abbrev pub misfit_flaws : Scene → FieldOf → List Flaw
misfit_flaws scene f = flat_map (λ o. flaw_if (is_misfit scene f o) kind.BadOption o.name) f.options

-- ---- `default`

-- the scalar types of whole numbers with a sign, of 32 bits
abbrev pub signed_32 : List Text
signed_32 = codes "int32" ∷ codes "sint32" ∷ codes "sfixed32" ∷ []

-- the same of 64 bits
abbrev pub signed_64 : List Text
signed_64 = codes "int64" ∷ codes "sint64" ∷ codes "sfixed64" ∷ []

-- the scalar types of whole numbers without a sign, of 32 bits
abbrev pub unsigned_32 : List Text
unsigned_32 = codes "uint32" ∷ codes "fixed32" ∷ []

-- the same of 64 bits
abbrev pub unsigned_64 : List Text
unsigned_64 = codes "uint64" ∷ codes "fixed64" ∷ []

-- a whole number is in the range of the scalar type, which is one of whole numbers
abbrev pub holds_number : Text → ℤ → Bool
holds_number scalar n =
    if is_one_of signed_32 scalar then is_within least_value most_value n
    else (if is_one_of signed_64 scalar then is_within (negsuc (2 ^ 63 - 1)) (pos (2 ^ 63 - 1)) n
    else (if is_one_of unsigned_32 scalar then is_within (pos 0) (pos (2 ^ 32 - 1)) n
    else (if is_one_of unsigned_64 scalar then is_within (pos 0) (pos (2 ^ 64 - 1)) n
    else false)))

-- a default that the scalar type allows: a whole number in its range, `true` or `false` of bool, or
-- a text of string
abbrev pub is_scalar_default : Scene → Text → Constant → Bool
is_scalar_default scene scalar (constant.Number n) = holds_number scalar (signed_value scene n)
is_scalar_default scene scalar (constant.Word w) =
    bytes_eq scalar (codes "bool") && is_some (truth_of (text scene) (constant.Word w))
is_scalar_default scene scalar (constant.Text j) = bytes_eq scalar (codes "string")

-- there is an enum and a word, and the word is the simple name of one of its values
abbrev pub is_value_of : Option EnumOf → Option Text → Bool
is_value_of None w = false
is_value_of (Some e) None = false
is_value_of (Some e) (Some w) = is_one_of e.values w

-- a default that the type allows: of a scalar type as above, of an enum one of its values, and of a
-- message none
abbrev pub is_default_of : Scene → FieldType → Constant → Bool
is_default_of scene (field_type.Scalar t) c = is_scalar_default scene (text scene t) c
is_default_of scene (field_type.Reference r) c =
    is_value_of (enum_meant scene r) (word_of (text scene) c)

-- a default fits its field, which is neither repeated nor a map
abbrev pub may_default : Scene → FieldOf → OptionOf → Bool
may_default scene f o =
    not (has_label scene (codes "repeated") f)
    && (is_none f.map_key && is_default_of scene f.kind o.value)

-- 28 BadDefault at the word `default` of a default, where there is one, that does not fit
abbrev pub wrong_default : Scene → FieldOf → Option OptionOf → List Flaw
wrong_default scene f None = []
wrong_default scene f (Some o) = flaw_if (not (may_default scene f o)) kind.BadDefault o.name

-- in proto2 the first default has to fit (a second one is an option given twice)
abbrev pub default_flaws : Scene → FieldOf → List Flaw
default_flaws scene f =
    if scene.is_proto3 then []
    else wrong_default scene f (find (is_named (text scene) (codes "default")) f.options)

-- 31 NotInProto3 at each `default` of a field of a proto3 file
abbrev pub proto3_defaults : Scene → FieldOf → List Flaw
proto3_defaults scene f =
    flat_map (λ o. flaw_if
    (scene.is_proto3 && is_named (text scene) (codes "default") o)
    kind.NotInProto3 o.name) f.options

-- ---- all of it

-- what is wrong with a field's label and its type: 25 Label, 31 NotInProto3, 26 BadMap,
-- 23 FirstNotZero and 24 ClosedEnum
abbrev pub type_flaws : Scene → FieldOf → List Flaw
type_flaws scene f =
    flaw_if (lacks_label scene f) kind.Label (type_token f.kind)
    ++ (required_flaws scene f.label
    ++ (map_key_flaws scene f.map_key
    ++ (flaw_if (starts_wrong scene f) kind.FirstNotZero (type_token f.kind)
    ++ flaw_if (has_closed_enum scene f) kind.ClosedEnum (type_token f.kind))))

-- what is wrong with a field, or with an extension, which may have other options: its label, its
-- type, its options and its default
abbrev pub field_flaws : Scene → Element → FieldOf → List Flaw
field_flaws scene on f =
    type_flaws scene f
    ++ (option_flaws scene on f.options
    ++ (misfit_flaws scene f
    ++ (default_flaws scene f
    ++ proto3_defaults scene f)))

-- ---- extensions

-- 38 RequiredExtension at the label of an extension that is `required`
abbrev pub required_extensions : Scene → Option ℕ → List Flaw
required_extensions scene None = []
required_extensions scene (Some t) =
    flaw_if (bytes_eq (text scene t) (codes "required")) kind.RequiredExtension t

-- what is wrong with an extension: its label, and what is wrong with a field
abbrev pub flaws_of_extension : Scene → FieldOf → List Flaw
flaws_of_extension scene f =
    required_extensions scene f.label ++ field_flaws scene element.Extension f
