-- The descriptor of a file that is linked, from its tree and what is read of it: fields,
-- extensions, enums, messages, services and the file itself.
use Rattle.std.specs.Prelude.{ℕ, suc, ◌+◌, ℤ, pos, negsuc, nat_abs, ◌^◌, ◌-◌, Bool, true, false, ◌&&◌, ◌||◌, if◌then◌else◌, List, [], ◌∷◌, ◌++◌, map, flat_map, Option, Some, None, option_map, is_some, codes}
use Rattle.std.specs.Fmt.{signed_decimal}
use Rattle.std.specs.Str.{bytes_eq}
use Rattle.proto_base.specs.Ascii as ascii
use Rattle.proto_base.specs.Texts.{Text, Path, or_nothing}
use Rattle.proto_tree.specs.declared.tree.Constant.{Constant}
use Rattle.proto_tree.specs.declared.tree.Constant.TheVariants as constant
use Rattle.proto_tree.specs.declared.tree.FieldType.{FieldType as WrittenType}
use Rattle.proto_tree.specs.declared.tree.FieldType.TheVariants as written_type
use Rattle.proto_tree.specs.declared.tree.MapField.{MapField}
use Rattle.proto_tree.specs.declared.tree.Reference.{Reference}
use Rattle.proto_tree.specs.declared.tree.Signature.{Signature}
use Rattle.proto_tree.specs.declared.tree.Value.{Value}
use Rattle.proto_tree.specs.declared.piece.Statement.TheVariants as statement
use Rattle.proto_tree.specs.declared.piece.Header.TheVariants as header
use Rattle.proto_tree.specs.Tree.{Tree, End, Leaf, Block}
use Rattle.proto_case.specs.Camel.{entry_name}
use Rattle.proto_names_outline.specs.FromTree.{Wanted, imports_in, items_in}
pub use Rattle.proto_names_rules.specs.Joined.{below}
use Rattle.proto_names_rules.specs.Joined.{joined}
use Rattle.proto_names_rules.specs.Tree.{package_of, key_word, value_word}
use Rattle.proto_ast.specs.Options.{truth_option, word_option, text_option, value_named}
use Rattle.proto_ast.specs.Parts.{FieldOf, OptionOf, statements, fields_in, values_in, reserved_ranges, extension_ranges, enum_ranges, reserved_names_in, options_in, settings_of}
use Rattle.proto_ast.specs.Scenes.{Scene, text, value, number_in_text, number_at, signed_value, meant_by, enum_meant}
use Rattle.proto_ast.specs.Labels.{has_label}
use Rattle.proto_ast.specs.JsonNames.{json_name_of}
use Rattle.proto_desc_numbers.specs.NumberFlaws.{is_within, most_field, most_value, least_value, range_of, enum_range_of}
use Rattle.proto_ast.specs.declared.ranges.RangeAt.{RangeAt}
use Rattle.proto_descriptors.specs.declared.enumeration.EnumOptions.{EnumOptions}
use Rattle.proto_descriptors.specs.declared.enumeration.EnumReservedRange.{EnumReservedRange}
use Rattle.proto_descriptors.specs.declared.field.CType.{CType}
use Rattle.proto_descriptors.specs.declared.field.CType.TheVariants as c_type
use Rattle.proto_descriptors.specs.declared.field.JsType.{JsType}
use Rattle.proto_descriptors.specs.declared.field.JsType.TheVariants as js_type
use Rattle.proto_descriptors.specs.declared.field.FieldOptions.{FieldOptions}
use Rattle.proto_descriptors.specs.declared.field.FieldType.{FieldType}
use Rattle.proto_descriptors.specs.declared.field.FieldType.TheVariants as field_type
use Rattle.proto_descriptors.specs.declared.field.Label.{Label}
use Rattle.proto_descriptors.specs.declared.field.Label.TheVariants as label
use Rattle.proto_descriptors.specs.declared.file.OptimizeMode.{OptimizeMode}
use Rattle.proto_descriptors.specs.declared.file.OptimizeMode.TheVariants as optimize_mode
use Rattle.proto_descriptors.specs.declared.file.Syntax.TheVariants as syntax
use Rattle.proto_descriptors.specs.declared.message.MessageOptions.{MessageOptions}
use Rattle.proto_descriptors.specs.declared.message.NumberRange.{NumberRange}
use Rattle.proto_descriptors.specs.declared.service.IdempotencyLevel.{IdempotencyLevel}
use Rattle.proto_descriptors.specs.declared.service.IdempotencyLevel.TheVariants as idempotency_level
use Rattle.proto_descriptors.specs.declared.service.MethodOptions.{MethodOptions}
use Rattle.proto_descriptors.specs.Descriptors.{FieldDesc, EnumValueDesc, EnumDesc, MessageDesc, Messages, NoMessages, Message, MethodDesc, ServiceDesc, FileOptionsDesc, FileDesc}

-- ---- numbers (a file has a descriptor only where all of them are in their limits: of another
-- number nothing is said)

-- the number of a field: up to 536,870,911, and 0 in place of any other
abbrev pub field_number : ℤ → ℕ
field_number n = if is_within (pos 0) most_field n then nat_abs n else 0

-- the number of an enum's value: of 32 bits with a sign, and 0 in place of any other
abbrev pub value_number : ℤ → ℤ
value_number n = if is_within least_value most_value n then n else pos 0

-- a default is of 64 bits at most
abbrev pub default_number : ℤ → ℤ
default_number n = if is_within (negsuc (2 ^ 63 - 1)) (pos (2 ^ 64 - 1)) n then n else pos 0

-- from the first number up to the one after the last
abbrev pub number_range : RangeAt → NumberRange
number_range r = record { start = field_number r.first; end = field_number r.last + 1 }

-- reserved numbers of an enum, from the first to the last, both among them
abbrev pub value_range : RangeAt → EnumReservedRange
value_range r = record { start = value_number r.first; end = value_number r.last }

-- ---- types

-- the type of a scalar's name
abbrev pub scalar_type : Text → FieldType
scalar_type w =
    if bytes_eq w (codes "double") then field_type.Double
    else (if bytes_eq w (codes "float") then field_type.Float
    else (if bytes_eq w (codes "int32") then field_type.Int32
    else (if bytes_eq w (codes "int64") then field_type.Int64
    else (if bytes_eq w (codes "uint32") then field_type.Uint32
    else (if bytes_eq w (codes "uint64") then field_type.Uint64
    else (if bytes_eq w (codes "sint32") then field_type.Sint32
    else (if bytes_eq w (codes "sint64") then field_type.Sint64
    else (if bytes_eq w (codes "fixed32") then field_type.Fixed32
    else (if bytes_eq w (codes "fixed64") then field_type.Fixed64
    else (if bytes_eq w (codes "sfixed32") then field_type.Sfixed32
    else (if bytes_eq w (codes "sfixed64") then field_type.Sfixed64
    else (if bytes_eq w (codes "bool") then field_type.Bool
    else (if bytes_eq w (codes "string") then field_type.String
    else field_type.Bytes)))))))))))))

-- a scalar is its own type; a reference is an enum where it means one, else a message
abbrev pub type_of : Scene → WrittenType → FieldType
type_of scene (written_type.Scalar t) = scalar_type (text scene t)
type_of scene (written_type.Reference r) =
    if is_some (enum_meant scene r) then field_type.Enum else field_type.Message

-- a full name behind a dot
abbrev pub absolute : Text → Text
absolute name = ascii.dot ∷ name

-- a reference has the full name that it means, behind a dot; a scalar has none
abbrev pub type_name_of : Scene → WrittenType → Option Text
type_name_of scene (written_type.Scalar t) = None
type_name_of scene (written_type.Reference r) = option_map (λ m. absolute m.name) (meant_by scene r)

-- the full name that a reference means, behind a dot
abbrev pub type_text : Scene → Reference → Text
type_text scene r = or_nothing (option_map (λ m. absolute m.name) (meant_by scene r))

-- ---- fields and extensions

-- the field is a map: it has a type of keys
abbrev pub is_map : FieldOf → Bool
is_map f = is_some f.map_key

-- a field without a label is optional, a map field is repeated
abbrev pub label_of : Scene → FieldOf → Label
label_of scene f =
    if is_map f || has_label scene (codes "repeated") f then label.Repeated
    else (if has_label scene (codes "required") f then label.Required
    else label.Optional)

-- a map field's type is its entry
abbrev pub field_type_of : Scene → FieldOf → FieldType
field_type_of scene f = if is_map f then field_type.Message else type_of scene f.kind

-- a map field names its entry, which is nested in the field's own message
abbrev pub field_type_name : Scene → Text → FieldOf → Option Text
field_type_name scene full f =
    if is_map f then Some (below full (entry_name (text scene f.name)))
    else type_name_of scene f.kind

-- a default as text: decimal, a word, or the value of its strings
abbrev pub default_text : Scene → Constant → Text
default_text scene (constant.Number n) = signed_decimal (default_number (signed_value scene n))
default_text scene (constant.Word w) = text scene w
default_text scene (constant.Text j) = flat_map (value scene) (j.first ∷ j.rest)

-- the C++ type of a word; a word that names no other type is the string
abbrev pub c_type_named : Text → CType
c_type_named w =
    if bytes_eq w (codes "CORD") then c_type.Cord
    else (if bytes_eq w (codes "STRING_PIECE") then c_type.StringPiece
    else c_type.String)

-- the JavaScript type of a word; a word that names no other type is the usual one
abbrev pub js_type_named : Text → JsType
js_type_named w =
    if bytes_eq w (codes "JS_STRING") then js_type.String
    else (if bytes_eq w (codes "JS_NUMBER") then js_type.Number
    else js_type.Normal)

-- the options at a field that its descriptor keeps: all but `json_name` and `default`
abbrev pub field_options : Scene → List OptionOf → FieldOptions
field_options scene options = record {
  ctype = option_map c_type_named (word_option (text scene) (codes "ctype") options);
  packed = truth_option (text scene) (codes "packed") options;
  jstype = option_map js_type_named (word_option (text scene) (codes "jstype") options);
  lazy = truth_option (text scene) (codes "lazy") options;
  unverified_lazy = truth_option (text scene) (codes "unverified_lazy") options;
  deprecated = truth_option (text scene) (codes "deprecated") options;
  weak = truth_option (text scene) (codes "weak") options;
}

-- a field, with what is said of its message: its full name, the extendee of an extension and the
-- JSON name of any other field
abbrev pub field_with : Scene → Text → Option Text → Option Text → FieldOf → FieldDesc
field_with scene full extendee json_name f = record {
  name = text scene f.name;
  number = field_number (number_at scene f.number);
  label = label_of scene f;
  field_type = field_type_of scene f;
  type_name = field_type_name scene full f;
  extendee = extendee;
  default_value =
      option_map (default_text scene) (value_named (text scene) (codes "default") f.options);
  oneof_index = f.oneof;
  json_name = json_name;
  proto3_optional = scene.is_proto3 && has_label scene (codes "optional") f;
  options = field_options scene f.options;
}

-- a field of the message with this full name
abbrev pub field_described : Scene → Text → FieldOf → FieldDesc
field_described scene full f = field_with scene full None (Some (json_name_of scene f)) f

-- an extension of what the reference means, which it names behind a dot; it has no JSON name, and
-- is no map field, which alone asks for the message around it
abbrev pub extension_described : Scene → Reference → FieldOf → FieldDesc
extension_described scene extendee f = field_with scene [] (Some (type_text scene extendee)) None f

-- the extensions right in a message or a file, block by block (each kind of block has its own walk
-- over the tree, here and below: what it gives is of a type of its own)
abbrev pub extensions_described : Scene → Tree → List FieldDesc
extensions_described scene End = []
extensions_described scene (Leaf s rest) = extensions_described scene rest
extensions_described scene (Block (header.Extend e) opens within closes rest) =
    map (extension_described scene e.extendee) (fields_in within)
    ++ extensions_described scene rest
extensions_described scene (Block h opens within closes rest) = extensions_described scene rest

-- ---- enums

-- a value of an enum: its name, its number and its option `deprecated`
abbrev pub value_described : Scene → Value → EnumValueDesc
value_described scene v = record {
  name = text scene v.name;
  number = value_number (signed_value scene v.number);
  options = record {
    deprecated = truth_option (text scene) (codes "deprecated") (settings_of v.settings);
  };
}

-- the options in an enum that its descriptor keeps: `allow_alias` and `deprecated`
abbrev pub enum_options : Scene → List OptionOf → EnumOptions
enum_options scene options = record {
  allow_alias = truth_option (text scene) (codes "allow_alias") options;
  deprecated = truth_option (text scene) (codes "deprecated") options;
}

-- an enum by the token of its name and what stands in its block, in source order
abbrev pub enum_described : Scene → ℕ → Tree → EnumDesc
enum_described scene name within = record {
  name = text scene name;
  value = map (value_described scene) (values_in within);
  reserved_range =
      map (λ r. value_range (enum_range_of scene r)) (flat_map enum_ranges (statements within));
  reserved_name = map (value scene) (reserved_names_in within);
  options = enum_options scene (options_in within);
}

-- the enums right in a message or a file
abbrev pub enums_described : Scene → Tree → List EnumDesc
enums_described scene End = []
enums_described scene (Leaf s rest) = enums_described scene rest
enums_described scene (Block (header.Enum h) opens within closes rest) =
    enum_described scene h.name within ∷ enums_described scene rest
enums_described scene (Block h opens within closes rest) = enums_described scene rest

-- ---- messages

-- the names of the oneofs right in a message
abbrev pub oneof_names : Scene → Tree → List Text
oneof_names scene End = []
oneof_names scene (Leaf s rest) = oneof_names scene rest
oneof_names scene (Block (header.Oneof h) opens within closes rest) =
    text scene h.name ∷ oneof_names scene rest
oneof_names scene (Block h opens within closes rest) = oneof_names scene rest

-- the options of a message: `deprecated`, `no_standard_descriptor_accessor`, and whether it is the
-- entry of a map field
abbrev pub message_options : Scene → Bool → List OptionOf → MessageOptions
message_options scene is_entry options = record {
  deprecated = truth_option (text scene) (codes "deprecated") options;
  no_standard_descriptor_accessor =
      truth_option (text scene) (codes "no_standard_descriptor_accessor") options;
  map_entry = is_entry;
}

-- a message by its full name and the token of its own, without those nested in it
abbrev pub message_described : Scene → Text → ℕ → Tree → MessageDesc
message_described scene full name within = record {
  name = text scene name;
  field = map (field_described scene full) (fields_in within);
  extension = extensions_described scene within;
  enum_type = enums_described scene within;
  extension_range =
      map (λ r. number_range (range_of scene r)) (flat_map extension_ranges (statements within));
  oneof_decl = oneof_names scene within;
  reserved_range =
      map (λ r. number_range (range_of scene r)) (flat_map reserved_ranges (statements within));
  reserved_name = map (value scene) (reserved_names_in within);
  options = message_options scene false (options_in within);
}

-- `key` or `value` of a map field's entry
abbrev pub entry_field : Text → ℕ → FieldType → Option Text → FieldDesc
entry_field word number_in_text kind type_name = record {
  name = word;
  number = number_in_text;
  label = label.Optional;
  field_type = kind;
  type_name = type_name;
  extendee = None;
  default_value = None;
  oneof_index = None;
  json_name = Some word;
  proto3_optional = false;
  options = record {
    ctype = None;
    packed = None;
    jstype = None;
    lazy = None;
    unverified_lazy = None;
    deprecated = None;
    weak = None;
  };
}

-- the generated entry of a map field
abbrev pub entry_described : Scene → MapField → MessageDesc
entry_described scene f = record {
  name = entry_name (text scene f.name);
  field =
      entry_field key_word 1 (scalar_type (text scene f.key)) None
      ∷ entry_field value_word 2 (type_of scene f.value) (type_name_of scene f.value) ∷ [];
  extension = [];
  enum_type = [];
  extension_range = [];
  oneof_decl = [];
  reserved_range = [];
  reserved_name = [];
  options = record {
    deprecated = None;
    no_standard_descriptor_accessor = None;
    map_entry = true;
  };
}

-- the messages right in a message or a file of this full name, each with those nested in it; an
-- entry stands at its map field's place
abbrev pub messages_described : Scene → Text → Tree → Messages
messages_described scene full End = NoMessages
messages_described scene full (Leaf (statement.MapField f) rest) =
    Message (entry_described scene f) NoMessages (messages_described scene full rest)
messages_described scene full (Leaf s rest) = messages_described scene full rest
messages_described scene full (Block (header.Message h) opens within closes rest) =
    Message
    (message_described scene (below full (text scene h.name)) h.name within)
    (messages_described scene (below full (text scene h.name)) within)
    (messages_described scene full rest)
messages_described scene full (Block h opens within closes rest) =
    messages_described scene full rest

-- ---- services

-- the level of a word; a word that names none is the unknown level
abbrev pub level_named : Text → IdempotencyLevel
level_named w =
    if bytes_eq w (codes "NO_SIDE_EFFECTS") then idempotency_level.NoSideEffects
    else (if bytes_eq w (codes "IDEMPOTENT") then idempotency_level.Idempotent
    else idempotency_level.Unknown)

-- the options in a method that its descriptor keeps: `deprecated` and `idempotency_level`
abbrev pub method_options : Scene → List OptionOf → MethodOptions
method_options scene options = record {
  deprecated = truth_option (text scene) (codes "deprecated") options;
  idempotency_level =
      option_map level_named (word_option (text scene) (codes "idempotency_level") options);
}

-- a method by its signature and its options; a side with the word `stream` is a stream
abbrev pub method_described : Scene → Signature → List OptionOf → MethodDesc
method_described scene s options = record {
  name = text scene s.name;
  input_type = type_text scene s.input.reference;
  output_type = type_text scene s.output.reference;
  options = method_options scene options;
  client_streaming = is_some s.input.stream;
  server_streaming = is_some s.output.stream;
}

-- the methods right in a service, in source order; one that ends with `;` has no options
abbrev pub methods_described : Scene → Tree → List MethodDesc
methods_described scene End = []
methods_described scene (Leaf (statement.Method s i) rest) =
    method_described scene s [] ∷ methods_described scene rest
methods_described scene (Leaf s rest) = methods_described scene rest
methods_described scene (Block (header.Method s) opens within closes rest) =
    method_described scene s (options_in within) ∷ methods_described scene rest
methods_described scene (Block h opens within closes rest) = methods_described scene rest

-- a service by the token of its name: its methods, and its option `deprecated`
abbrev pub service_described : Scene → ℕ → Tree → ServiceDesc
service_described scene name within = record {
  name = text scene name;
  method = methods_described scene within;
  options = record {
    deprecated = truth_option (text scene) (codes "deprecated") (options_in within);
  };
}

-- the services right in a file, in source order
abbrev pub services_described : Scene → Tree → List ServiceDesc
services_described scene End = []
services_described scene (Leaf s rest) = services_described scene rest
services_described scene (Block (header.Service h) opens within closes rest) =
    service_described scene h.name within ∷ services_described scene rest
services_described scene (Block h opens within closes rest) = services_described scene rest

-- ---- the file

-- the mode of a word; a word that names no other mode is speed
abbrev pub mode_named : Text → OptimizeMode
mode_named w =
    if bytes_eq w (codes "CODE_SIZE") then optimize_mode.CodeSize
    else (if bytes_eq w (codes "LITE_RUNTIME") then optimize_mode.LiteRuntime
    else optimize_mode.Speed)

-- the options in a file that its descriptor keeps, each by its own name
abbrev pub file_options : Scene → List OptionOf → FileOptionsDesc
file_options scene options = record {
  java_package = text_option (text scene) (value scene) (codes "java_package") options;
  java_outer_classname =
      text_option (text scene) (value scene) (codes "java_outer_classname") options;
  java_multiple_files = truth_option (text scene) (codes "java_multiple_files") options;
  optimize_for = option_map mode_named (word_option (text scene) (codes "optimize_for") options);
  go_package = text_option (text scene) (value scene) (codes "go_package") options;
  deprecated = truth_option (text scene) (codes "deprecated") options;
  cc_enable_arenas = truth_option (text scene) (codes "cc_enable_arenas") options;
  objc_class_prefix = text_option (text scene) (value scene) (codes "objc_class_prefix") options;
  csharp_namespace = text_option (text scene) (value scene) (codes "csharp_namespace") options;
  php_namespace = text_option (text scene) (value scene) (codes "php_namespace") options;
  java_generate_equals_and_hash =
      truth_option (text scene) (codes "java_generate_equals_and_hash") options;
  java_generic_services = truth_option (text scene) (codes "java_generic_services") options;
  ruby_package = text_option (text scene) (value scene) (codes "ruby_package") options;
  java_string_check_utf8 = truth_option (text scene) (codes "java_string_check_utf8") options;
  cc_generic_services = truth_option (text scene) (codes "cc_generic_services") options;
  py_generic_services = truth_option (text scene) (codes "py_generic_services") options;
  php_generic_services = truth_option (text scene) (codes "php_generic_services") options;
  swift_prefix = text_option (text scene) (value scene) (codes "swift_prefix") options;
  php_class_prefix = text_option (text scene) (value scene) (codes "php_class_prefix") options;
  php_metadata_namespace =
      text_option (text scene) (value scene) (codes "php_metadata_namespace") options;
}

-- the package's name, where the file has one
abbrev pub package_named : Scene → List ℕ → Option Text
package_named scene [] = None
package_named scene (t ∷ ts) = Some (joined (map (text scene) (t ∷ ts)))

-- the same behind a dot, and nothing where there is none
abbrev pub package_prefix : Option Text → Text
package_prefix None = []
package_prefix (Some name) = absolute name

-- the places of such imports among all, of which so many stand before
abbrev pub places_of : (Wanted → Bool) → ℕ → List Wanted → List ℕ
places_of is before [] = []
places_of is before (w ∷ ws) =
    (if is w then before ∷ [] else []) ++ places_of is (suc before) ws

-- the places of the public imports among all, of which so many stand before
abbrev pub public_places : ℕ → List Wanted → List ℕ
public_places before ws = places_of (λ w. w.is_public) before ws

-- those of the weak imports
abbrev pub weak_places : ℕ → List Wanted → List ℕ
weak_places before ws = places_of (λ w. w.is_weak) before ws

-- the file at a path
abbrev pub file_described : Scene → Path → Tree → FileDesc
file_described scene path tree = record {
  name = path;
  «package» = package_named scene (package_of (items_in tree));
  dependency = map (λ w. value scene w.path) (imports_in tree);
  public_dependency = public_places 0 (imports_in tree);
  weak_dependency = weak_places 0 (imports_in tree);
  message_type =
      messages_described scene
      (package_prefix (package_named scene (package_of (items_in tree)))) tree;
  enum_type = enums_described scene tree;
  service = services_described scene tree;
  extension = extensions_described scene tree;
  options = file_options scene (options_in tree);
  syntax = if scene.is_proto3 then syntax.Proto3 else syntax.Proto2;
}
