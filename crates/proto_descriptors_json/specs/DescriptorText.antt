-- The JSON text of descriptors: for each kind of object its keys, in the order of their bytes, with
-- the texts of their values.
use Rattle.std.specs.Prelude.{List, [], ◌∷◌, Option, Some, None, option_map, map, codes, decimal}
use Rattle.std.specs.Fmt.{signed_decimal}
use Rattle.proto_base.specs.Texts.{Text}
use Rattle.proto_descriptors.specs.Descriptors.{FieldDesc, EnumValueDesc, EnumDesc, MessageDesc, Messages, NoMessages, Message, MethodDesc, ServiceDesc, FileOptionsDesc, FileDesc}
use Rattle.proto_descriptors_json.specs.JsonText.{Slot, json_string, boolean_text, object_text, array_if_any, object_if_any, mark_if_true}
use Rattle.proto_descriptors.specs.declared.enumeration.EnumOptions.{EnumOptions}
use Rattle.proto_descriptors.specs.declared.enumeration.EnumReservedRange.{EnumReservedRange}
use Rattle.proto_descriptors.specs.declared.enumeration.EnumValueOptions.{EnumValueOptions}
use Rattle.proto_descriptors.specs.declared.field.FieldOptions.{FieldOptions}
use Rattle.proto_descriptors.specs.declared.file.Syntax.{Syntax}
use Rattle.proto_descriptors.specs.declared.file.Syntax.TheVariants as syntax
use Rattle.proto_descriptors.specs.declared.message.MessageOptions.{MessageOptions}
use Rattle.proto_descriptors.specs.declared.message.NumberRange.{NumberRange}
use Rattle.proto_descriptors.specs.declared.service.MethodOptions.{MethodOptions}
use Rattle.proto_descriptors.specs.declared.service.ServiceOptions.{ServiceOptions}
pub use Rattle.proto_descriptors.specs.Names.{c_type_name, js_type_name, label_name, type_word, optimize_mode_name, idempotency_level_name}

-- ---- names

-- proto2 is the version of a file that names none
abbrev pub syntax_name : Syntax → Option Text
syntax_name syntax.Proto2 = None
syntax_name syntax.Proto3 = Some (codes "proto3")

-- ---- fields

-- the options at a field, each left out where it is not written
abbrev pub field_options_slots : FieldOptions → List Slot
field_options_slots o =
    (codes "ctype", option_map (λ t. json_string (c_type_name t)) o.ctype)
    ∷ (codes "deprecated", option_map boolean_text o.deprecated)
    ∷ (codes "jstype", option_map (λ t. json_string (js_type_name t)) o.jstype)
    ∷ (codes "lazy", option_map boolean_text o.lazy)
    ∷ (codes "packed", option_map boolean_text o.packed)
    ∷ (codes "unverifiedLazy", option_map boolean_text o.unverified_lazy)
    ∷ (codes "weak", option_map boolean_text o.weak) ∷ []

-- a field: label, name, number and type always stand, any other key only where it says something
abbrev pub field_slots : FieldDesc → List Slot
field_slots f =
    (codes "defaultValue", option_map json_string f.default_value)
    ∷ (codes "extendee", option_map json_string f.extendee)
    ∷ (codes "jsonName", option_map json_string f.json_name)
    ∷ (codes "label", Some (json_string (label_name f.label)))
    ∷ (codes "name", Some (json_string f.name))
    ∷ (codes "number", Some (decimal f.number))
    ∷ (codes "oneofIndex", option_map decimal f.oneof_index)
    ∷ (codes "options", object_if_any (field_options_slots f.options))
    ∷ (codes "proto3Optional", mark_if_true f.proto3_optional)
    ∷ (codes "type", Some (json_string (type_word f.field_type)))
    ∷ (codes "typeName", option_map json_string f.type_name) ∷ []

-- the object of a field
abbrev pub field_text : FieldDesc → Text
field_text f = object_text (field_slots f)

-- ---- enums

-- the option at a value of an enum, left out where it is not written
abbrev pub enum_value_options_slots : EnumValueOptions → List Slot
enum_value_options_slots o = (codes "deprecated", option_map boolean_text o.deprecated) ∷ []

-- a value of an enum: name and number always stand, options only where one is written
abbrev pub enum_value_slots : EnumValueDesc → List Slot
enum_value_slots v =
    (codes "name", Some (json_string v.name))
    ∷ (codes "number", Some (signed_decimal v.number))
    ∷ (codes "options", object_if_any (enum_value_options_slots v.options)) ∷ []

-- the object of a value of an enum
abbrev pub enum_value_text : EnumValueDesc → Text
enum_value_text v = object_text (enum_value_slots v)

-- reserved numbers of an enum, from `start` to `end`, both among them
abbrev pub enum_range_slots : EnumReservedRange → List Slot
enum_range_slots r =
    (codes "end", Some (signed_decimal r.end))
    ∷ (codes "start", Some (signed_decimal r.start)) ∷ []

-- the object of a range of reserved numbers of an enum
abbrev pub enum_range_text : EnumReservedRange → Text
enum_range_text r = object_text (enum_range_slots r)

-- the options in an enum, each left out where it is not written
abbrev pub enum_options_slots : EnumOptions → List Slot
enum_options_slots o =
    (codes "allowAlias", option_map boolean_text o.allow_alias)
    ∷ (codes "deprecated", option_map boolean_text o.deprecated) ∷ []

-- an enum: its name always stands, its options and its lists only where they are not empty
abbrev pub enum_slots : EnumDesc → List Slot
enum_slots e =
    (codes "name", Some (json_string e.name))
    ∷ (codes "options", object_if_any (enum_options_slots e.options))
    ∷ (codes "reservedName", array_if_any (map json_string e.reserved_name))
    ∷ (codes "reservedRange", array_if_any (map enum_range_text e.reserved_range))
    ∷ (codes "value", array_if_any (map enum_value_text e.value)) ∷ []

-- the object of an enum
abbrev pub enum_text : EnumDesc → Text
enum_text e = object_text (enum_slots e)

-- ---- messages

-- field numbers from `start` up to `end`, which is not one of them
abbrev pub range_slots : NumberRange → List Slot
range_slots r = (codes "end", Some (decimal r.end)) ∷ (codes "start", Some (decimal r.start)) ∷ []

-- the object of a range of field numbers
abbrev pub range_text : NumberRange → Text
range_text r = object_text (range_slots r)

-- a oneof, of which the name is written alone: each field says in which oneof it stands
abbrev pub oneof_slots : Text → List Slot
oneof_slots name = (codes "name", Some (json_string name)) ∷ []

-- the object of a oneof with this name
abbrev pub oneof_text : Text → Text
oneof_text name = object_text (oneof_slots name)

-- the options in a message; `mapEntry` stands in the entry of a map field alone
abbrev pub message_options_slots : MessageOptions → List Slot
message_options_slots o =
    (codes "deprecated", option_map boolean_text o.deprecated)
    ∷ (codes "mapEntry", mark_if_true o.map_entry)
    ∷ (
      codes "noStandardDescriptorAccessor",
      option_map boolean_text o.no_standard_descriptor_accessor,
    ) ∷ []

-- a message, with the texts of those nested in it
abbrev pub message_slots : MessageDesc → List Text → List Slot
message_slots m nested =
    (codes "enumType", array_if_any (map enum_text m.enum_type))
    ∷ (codes "extension", array_if_any (map field_text m.extension))
    ∷ (codes "extensionRange", array_if_any (map range_text m.extension_range))
    ∷ (codes "field", array_if_any (map field_text m.field))
    ∷ (codes "name", Some (json_string m.name))
    ∷ (codes "nestedType", array_if_any nested)
    ∷ (codes "oneofDecl", array_if_any (map oneof_text m.oneof_decl))
    ∷ (codes "options", object_if_any (message_options_slots m.options))
    ∷ (codes "reservedName", array_if_any (map json_string m.reserved_name))
    ∷ (codes "reservedRange", array_if_any (map range_text m.reserved_range)) ∷ []

-- the object of a message, with the texts of those nested in it
abbrev pub message_text : MessageDesc → List Text → Text
message_text m nested = object_text (message_slots m nested)

-- the texts of messages, in order
abbrev pub message_texts : Messages → List Text
message_texts NoMessages = []
message_texts (Message m nested rest) = message_text m (message_texts nested) ∷ message_texts rest

-- ---- services

-- the options in a method, each left out where it is not written
abbrev pub method_options_slots : MethodOptions → List Slot
method_options_slots o =
    (codes "deprecated", option_map boolean_text o.deprecated)
    ∷ (
      codes "idempotencyLevel",
      option_map (λ level. json_string (idempotency_level_name level)) o.idempotency_level,
    ) ∷ []

-- a method: its name and its types always stand, a mark of a stream only where there is one
abbrev pub method_slots : MethodDesc → List Slot
method_slots m =
    (codes "clientStreaming", mark_if_true m.client_streaming)
    ∷ (codes "inputType", Some (json_string m.input_type))
    ∷ (codes "name", Some (json_string m.name))
    ∷ (codes "options", object_if_any (method_options_slots m.options))
    ∷ (codes "outputType", Some (json_string m.output_type))
    ∷ (codes "serverStreaming", mark_if_true m.server_streaming) ∷ []

-- the object of a method
abbrev pub method_text : MethodDesc → Text
method_text m = object_text (method_slots m)

-- the option in a service, left out where it is not written
abbrev pub service_options_slots : ServiceOptions → List Slot
service_options_slots o = (codes "deprecated", option_map boolean_text o.deprecated) ∷ []

-- a service: its name always stands, its methods and its options only where there are any
abbrev pub service_slots : ServiceDesc → List Slot
service_slots s =
    (codes "method", array_if_any (map method_text s.method))
    ∷ (codes "name", Some (json_string s.name))
    ∷ (codes "options", object_if_any (service_options_slots s.options)) ∷ []

-- the object of a service
abbrev pub service_text : ServiceDesc → Text
service_text s = object_text (service_slots s)

-- ---- files

-- the options in a file, each left out where it is not written
abbrev pub file_options_slots : FileOptionsDesc → List Slot
file_options_slots o =
    (codes "ccEnableArenas", option_map boolean_text o.cc_enable_arenas)
    ∷ (codes "ccGenericServices", option_map boolean_text o.cc_generic_services)
    ∷ (codes "csharpNamespace", option_map json_string o.csharp_namespace)
    ∷ (codes "deprecated", option_map boolean_text o.deprecated)
    ∷ (codes "goPackage", option_map json_string o.go_package)
    ∷ (
      codes "javaGenerateEqualsAndHash",
      option_map boolean_text o.java_generate_equals_and_hash,
    )
    ∷ (codes "javaGenericServices", option_map boolean_text o.java_generic_services)
    ∷ (codes "javaMultipleFiles", option_map boolean_text o.java_multiple_files)
    ∷ (codes "javaOuterClassname", option_map json_string o.java_outer_classname)
    ∷ (codes "javaPackage", option_map json_string o.java_package)
    ∷ (codes "javaStringCheckUtf8", option_map boolean_text o.java_string_check_utf8)
    ∷ (codes "objcClassPrefix", option_map json_string o.objc_class_prefix)
    ∷ (
      codes "optimizeFor",
      option_map (λ mode. json_string (optimize_mode_name mode))
          o.optimize_for,
    )
    ∷ (codes "phpClassPrefix", option_map json_string o.php_class_prefix)
    ∷ (codes "phpGenericServices", option_map boolean_text o.php_generic_services)
    ∷ (codes "phpMetadataNamespace", option_map json_string o.php_metadata_namespace)
    ∷ (codes "phpNamespace", option_map json_string o.php_namespace)
    ∷ (codes "pyGenericServices", option_map boolean_text o.py_generic_services)
    ∷ (codes "rubyPackage", option_map json_string o.ruby_package)
    ∷ (codes "swiftPrefix", option_map json_string o.swift_prefix) ∷ []

-- a file: its path always stands, any other key only where it says something
abbrev pub file_slots : FileDesc → List Slot
file_slots f =
    (codes "dependency", array_if_any (map json_string f.dependency))
    ∷ (codes "enumType", array_if_any (map enum_text f.enum_type))
    ∷ (codes "extension", array_if_any (map field_text f.extension))
    ∷ (codes "messageType", array_if_any (message_texts f.message_type))
    ∷ (codes "name", Some (json_string f.name))
    ∷ (codes "options", object_if_any (file_options_slots f.options))
    ∷ (codes "package", option_map json_string f.package)
    ∷ (codes "publicDependency", array_if_any (map decimal f.public_dependency))
    ∷ (codes "service", array_if_any (map service_text f.service))
    ∷ (codes "syntax", option_map json_string (syntax_name f.syntax))
    ∷ (codes "weakDependency", array_if_any (map decimal f.weak_dependency)) ∷ []

-- the object of a file
abbrev pub file_text : FileDesc → Text
file_text f = object_text (file_slots f)

-- one object with one key, at which the texts of these files stand as a list
abbrev pub text_of_files : Text → List FileDesc → Text
text_of_files key files = object_text ((key, array_if_any (map file_text files)) ∷ [])

-- the text of a set of files: one object with the list `file`
abbrev pub json_text : List FileDesc → Text
json_text files = object_text ((codes "file", array_if_any (map file_text files)) ∷ [])
