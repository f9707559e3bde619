-- What the declared types of descriptors say, as the plain records of `Descriptors`.
use Rattle.std.specs.Prelude.{List, [], ◌∷◌, Option, Some, None, map, option_map, string_bytes}
use Rattle.proto_base.specs.Texts.{Text}
use Rattle.proto_descriptors.specs.declared.enumeration.EnumDescriptor.{EnumDescriptor}
use Rattle.proto_descriptors.specs.declared.enumeration.EnumValueDescriptor.{EnumValueDescriptor}
use Rattle.proto_descriptors.specs.declared.field.FieldDescriptor.{FieldDescriptor}
use Rattle.proto_descriptors.specs.declared.field.FieldRole.{FieldRole}
use Rattle.proto_descriptors.specs.declared.field.FieldRole.TheVariants as role
use Rattle.proto_descriptors.specs.declared.file.FileDescriptor.{FileDescriptor}
use Rattle.proto_descriptors.specs.declared.file.FileOptions.{FileOptions}
use Rattle.proto_descriptors.specs.declared.message.MessageDescriptor.{MessageDescriptor}
use Rattle.proto_descriptors.specs.declared.message.MessageDescriptor.TheOpen.{MessageDescriptor-F}
use Rattle.proto_descriptors.specs.declared.message.MessageDescriptor.TheFolds.{fold-MessageDescriptor}
use Rattle.proto_descriptors.specs.declared.message.OneofDescriptor.{OneofDescriptor}
use Rattle.proto_descriptors.specs.declared.service.MethodDescriptor.{MethodDescriptor}
use Rattle.proto_descriptors.specs.declared.service.ServiceDescriptor.{ServiceDescriptor}
use Rattle.proto_descriptors.specs.Descriptors.{FieldDesc, EnumValueDesc, EnumDesc, MessageDesc, Messages, NoMessages, Message, MethodDesc, ServiceDesc, FileOptionsDesc, FileDesc}

-- the full name of the message that an extension extends; a regular field extends none
abbrev pub role_extendee : FieldRole → Option Text
role_extendee (role.Regular json_name) = None
role_extendee (role.Extension extendee) = Some (string_bytes extendee)

-- the JSON name of a regular field; an extension has none
abbrev pub role_json_name : FieldRole → Option Text
role_json_name (role.Regular json_name) = Some (string_bytes json_name)
role_json_name (role.Extension extendee) = None

-- a field, its texts as bytes
abbrev pub field_desc : FieldDescriptor → FieldDesc
field_desc f = record {
  name = string_bytes f.name;
  number = f.number;
  label = f.label;
  field_type = f.field_type;
  type_name = option_map string_bytes f.type_name;
  extendee = role_extendee f.role;
  default_value = option_map string_bytes f.default_value;
  oneof_index = f.oneof_index;
  json_name = role_json_name f.role;
  proto3_optional = f.proto3_optional;
  options = f.options;
}

-- a value of an enum, its name as bytes
abbrev pub enum_value_desc : EnumValueDescriptor → EnumValueDesc
enum_value_desc v = record { name = string_bytes v.name; number = v.number; options = v.options }

-- an enum, its values and its reserved names and ranges in order
abbrev pub enum_desc : EnumDescriptor → EnumDesc
enum_desc e = record {
  name = string_bytes e.name;
  value = map enum_value_desc e.value.items;
  reserved_range = e.reserved_range.items;
  reserved_name = map string_bytes e.reserved_name.items;
  options = e.options;
}

-- a oneof is its name
abbrev pub oneof_desc : OneofDescriptor → Text
oneof_desc o = string_bytes o.name

-- one message and those nested in it
pub record MessageTree : Type 0 where
  pub message : MessageDesc
  pub nested_type : Messages

-- messages in order, each before those behind it
abbrev pub messages_of : List MessageTree → Messages
messages_of [] = NoMessages
messages_of (t ∷ ts) = Message t.message t.nested_type (messages_of ts)

-- a message's own part, whatever stands for those nested in it
abbrev pub message_desc : {A : Type 0} → MessageDescriptor-F A → MessageDesc
message_desc m = record {
  name = string_bytes m.name;
  field = map field_desc m.field.items;
  extension = map field_desc m.extension.items;
  enum_type = map enum_desc m.enum_type.items;
  extension_range = m.extension_range.items;
  oneof_decl = map oneof_desc m.oneof_decl.items;
  reserved_range = m.reserved_range.items;
  reserved_name = map string_bytes m.reserved_name.items;
  options = m.options;
}

-- a message, where each of those nested in it is seen already
abbrev pub message_step : MessageDescriptor-F MessageTree → MessageTree
message_step m = record { message = message_desc m; nested_type = messages_of m.nested_type.items }

-- a message with all that are nested in it, however deep
abbrev pub descriptor_tree : MessageDescriptor → MessageTree
descriptor_tree = fold-MessageDescriptor MessageTree message_step

-- messages in order, each with all that are nested in it
abbrev pub messages_desc : List MessageDescriptor → Messages
messages_desc ms = messages_of (map descriptor_tree ms)

-- a method, its name and the names of its types as bytes
abbrev pub method_desc : MethodDescriptor → MethodDesc
method_desc m = record {
  name = string_bytes m.name;
  input_type = string_bytes m.input_type;
  output_type = string_bytes m.output_type;
  options = m.options;
  client_streaming = m.client_streaming;
  server_streaming = m.server_streaming;
}

-- a service, its methods in order
abbrev pub service_desc : ServiceDescriptor → ServiceDesc
service_desc s = record {
  name = string_bytes s.name;
  method = map method_desc s.method.items;
  options = s.options;
}

-- the options in a file, their texts as bytes
abbrev pub file_options_desc : FileOptions → FileOptionsDesc
file_options_desc o = record {
  java_package = option_map string_bytes o.java_package;
  java_outer_classname = option_map string_bytes o.java_outer_classname;
  java_multiple_files = o.java_multiple_files;
  optimize_for = o.optimize_for;
  go_package = option_map string_bytes o.go_package;
  deprecated = o.deprecated;
  cc_enable_arenas = o.cc_enable_arenas;
  objc_class_prefix = option_map string_bytes o.objc_class_prefix;
  csharp_namespace = option_map string_bytes o.csharp_namespace;
  php_namespace = option_map string_bytes o.php_namespace;
  java_generate_equals_and_hash = o.java_generate_equals_and_hash;
  java_generic_services = o.java_generic_services;
  ruby_package = option_map string_bytes o.ruby_package;
  java_string_check_utf8 = o.java_string_check_utf8;
  cc_generic_services = o.cc_generic_services;
  py_generic_services = o.py_generic_services;
  php_generic_services = o.php_generic_services;
  swift_prefix = option_map string_bytes o.swift_prefix;
  php_class_prefix = option_map string_bytes o.php_class_prefix;
  php_metadata_namespace = option_map string_bytes o.php_metadata_namespace;
}

-- a file with all that it declares, in order
abbrev pub file_desc : FileDescriptor → FileDesc
file_desc f = record {
  name = string_bytes f.name;
  «package» = option_map string_bytes f.package;
  dependency = map string_bytes f.dependency.items;
  public_dependency = f.public_dependency.items;
  weak_dependency = f.weak_dependency.items;
  message_type = messages_desc f.message_type.items;
  enum_type = map enum_desc f.enum_type.items;
  service = map service_desc f.service.items;
  extension = map field_desc f.extension.items;
  options = file_options_desc f.options;
  syntax = f.syntax;
}
