-- What the descriptors of a rename leave out of a record stays as it was: each record with all of its fields.
use Rattle.std.proofs.Common.{◌≡◌, ℕ, List, [], ◌∷◌, ◌++◌, option_map, map, refl}
use Rattle.proto_names_rules.proofs.Common.{Renaming}
use Rattle.proto_desc_build.specs.Described.{package_prefix}
use Rattle.proto_descriptors.specs.Descriptors.{EnumDesc, EnumValueDesc, FieldDesc, FileDesc, MessageDesc, MethodDesc, ServiceDesc}
use Rattle.proto_edit_rules.specs.Rename.{Taken, mapped_default, mapped_enum, mapped_field, mapped_file, mapped_json, mapped_message, mapped_messages, mapped_method, mapped_name, mapped_service, mapped_value, word_under, words_of}

field_whole : (e : Renaming) (taken : Taken) (above : List (List ℕ)) (f : FieldDesc) → mapped_field e taken above f ≡ (let d : FieldDesc = record {
  name = word_under e above f.name;
  number = f.number;
  label = f.label;
  field_type = f.field_type;
  type_name = option_map (mapped_name e) f.type_name;
  extendee = option_map (mapped_name e) f.extendee;
  default_value = option_map (mapped_default e taken f.type_name) f.default_value;
  oneof_index = f.oneof_index;
  json_name = option_map (mapped_json e taken above f.name) f.json_name;
  proto3_optional = f.proto3_optional;
  options = f.options;
} in d)
field_whole e taken above f = refl

value_whole : (e : Renaming) (above : List (List ℕ)) (v : EnumValueDesc)
    → mapped_value e above v ≡ (let d : EnumValueDesc = record { name = word_under e above v.name; number = v.number; options = v.options } in d)
value_whole e above v = refl

enum_whole : (e : Renaming) (above : List (List ℕ)) (d : EnumDesc) → mapped_enum e above d ≡ (let x : EnumDesc = record {
  name = word_under e above d.name;
  value = map (mapped_value e above) d.value;
  reserved_range = d.reserved_range;
  reserved_name = d.reserved_name;
  options = d.options;
} in x)
enum_whole e above d = refl

message_whole : (e : Renaming) (taken : Taken) (above full : List (List ℕ)) (m : MessageDesc) → mapped_message e taken above full m ≡ (let d : MessageDesc = record {
  name = word_under e above m.name;
  field = map (mapped_field e taken full) m.field;
  extension = map (mapped_field e taken full) m.extension;
  enum_type = map (mapped_enum e full) m.enum_type;
  extension_range = m.extension_range;
  oneof_decl = map (word_under e full) m.oneof_decl;
  reserved_range = m.reserved_range;
  reserved_name = m.reserved_name;
  options = m.options;
} in d)
message_whole e taken above full m = refl

method_whole : (e : Renaming) (full : List (List ℕ)) (m : MethodDesc) → mapped_method e full m ≡ (let d : MethodDesc = record {
  name = word_under e full m.name;
  input_type = mapped_name e m.input_type;
  output_type = mapped_name e m.output_type;
  options = m.options;
  client_streaming = m.client_streaming;
  server_streaming = m.server_streaming;
} in d)
method_whole e full m = refl

service_whole : (e : Renaming) (above : List (List ℕ)) (s : ServiceDesc) → mapped_service e above s ≡ (let d : ServiceDesc = record {
  name = word_under e above s.name;
  method = map (mapped_method e (above ++ s.name ∷ [])) s.method;
  options = s.options;
} in d)
service_whole e above s = refl

file_whole : (e : Renaming) (taken : Taken) (f : FileDesc) → mapped_file e taken f ≡ (let d : FileDesc = record {
  name = f.name;
  «package» = f.«package»;
  dependency = f.dependency;
  public_dependency = f.public_dependency;
  weak_dependency = f.weak_dependency;
  message_type = mapped_messages e taken (words_of (package_prefix f.«package»)) f.message_type;
  enum_type = map (mapped_enum e (words_of (package_prefix f.«package»))) f.enum_type;
  service = map (mapped_service e (words_of (package_prefix f.«package»))) f.service;
  extension = map (mapped_field e taken (words_of (package_prefix f.«package»))) f.extension;
  options = f.options;
  syntax = f.syntax;
} in d)
file_whole e taken f = refl
