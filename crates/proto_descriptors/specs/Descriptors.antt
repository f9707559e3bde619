-- What descriptors say, apart from where they lie in memory: the messages of descriptor.proto, with
-- texts as bytes.
use Rattle.std.specs.Prelude.{ℕ, ℤ, List, Option, Bool}
use Rattle.proto_base.specs.Texts.{Text, Path}
use Rattle.proto_descriptors.specs.declared.enumeration.EnumOptions.{EnumOptions}
use Rattle.proto_descriptors.specs.declared.enumeration.EnumReservedRange.{EnumReservedRange}
use Rattle.proto_descriptors.specs.declared.enumeration.EnumValueOptions.{EnumValueOptions}
use Rattle.proto_descriptors.specs.declared.field.FieldOptions.{FieldOptions}
use Rattle.proto_descriptors.specs.declared.field.FieldType.{FieldType}
use Rattle.proto_descriptors.specs.declared.field.Label.{Label}
use Rattle.proto_descriptors.specs.declared.file.OptimizeMode.{OptimizeMode}
use Rattle.proto_descriptors.specs.declared.file.Syntax.{Syntax}
use Rattle.proto_descriptors.specs.declared.message.MessageOptions.{MessageOptions}
use Rattle.proto_descriptors.specs.declared.message.NumberRange.{NumberRange}
use Rattle.proto_descriptors.specs.declared.service.MethodOptions.{MethodOptions}
use Rattle.proto_descriptors.specs.declared.service.ServiceOptions.{ServiceOptions}

-- a field, or an extension, which alone has an `extendee` and has no `json_name`; `type_name` and
-- `extendee` are full names behind a dot, `oneof_index` is a place in `oneof_decl`, from 0
pub record FieldDesc : Type 0 where
  pub name : Text
  pub number : ℕ
  pub label : Label
  pub field_type : FieldType
  pub type_name : Option Text
  pub extendee : Option Text
  pub default_value : Option Text
  pub oneof_index : Option ℕ
  pub json_name : Option Text
  pub proto3_optional : Bool
  pub options : FieldOptions

-- a value of an enum
pub record EnumValueDesc : Type 0 where
  pub name : Text
  pub number : ℤ
  pub options : EnumValueOptions

-- an enum, its lists in source order
pub record EnumDesc : Type 0 where
  pub name : Text
  pub value : List EnumValueDesc
  pub reserved_range : List EnumReservedRange
  pub reserved_name : List Text
  pub options : EnumOptions

-- a message without those nested in it; a oneof is its name
pub record MessageDesc : Type 0 where
  pub name : Text
  pub field : List FieldDesc
  pub extension : List FieldDesc
  pub enum_type : List EnumDesc
  pub extension_range : List NumberRange
  pub oneof_decl : List Text
  pub reserved_range : List NumberRange
  pub reserved_name : List Text
  pub options : MessageOptions

-- messages in order, each with those nested in it
pub data Messages : Type 0 where
  NoMessages : Messages
  Message : (message : MessageDesc) (nested_type : Messages) (rest : Messages) → Messages

-- a method; its types are full names behind a dot
pub record MethodDesc : Type 0 where
  pub name : Text
  pub input_type : Text
  pub output_type : Text
  pub options : MethodOptions
  pub client_streaming : Bool
  pub server_streaming : Bool

-- a service, its methods in source order
pub record ServiceDesc : Type 0 where
  pub name : Text
  pub method : List MethodDesc
  pub options : ServiceOptions

-- the options in a file, each where it is written
pub record FileOptionsDesc : Type 0 where
  pub java_package : Option Text
  pub java_outer_classname : Option Text
  pub java_multiple_files : Option Bool
  pub optimize_for : Option OptimizeMode
  pub go_package : Option Text
  pub deprecated : Option Bool
  pub cc_enable_arenas : Option Bool
  pub objc_class_prefix : Option Text
  pub csharp_namespace : Option Text
  pub php_namespace : Option Text
  pub java_generate_equals_and_hash : Option Bool
  pub java_generic_services : Option Bool
  pub ruby_package : Option Text
  pub java_string_check_utf8 : Option Bool
  pub cc_generic_services : Option Bool
  pub py_generic_services : Option Bool
  pub php_generic_services : Option Bool
  pub swift_prefix : Option Text
  pub php_class_prefix : Option Text
  pub php_metadata_namespace : Option Text

-- a file by its path; `public_dependency` and `weak_dependency` have places in `dependency`, from 0
pub record FileDesc : Type 0 where
  pub name : Path
  pub «package» : Option Text
  pub dependency : List Path
  pub public_dependency : List ℕ
  pub weak_dependency : List ℕ
  pub message_type : Messages
  pub enum_type : List EnumDesc
  pub service : List ServiceDesc
  pub extension : List FieldDesc
  pub options : FileOptionsDesc
  pub syntax : Syntax
