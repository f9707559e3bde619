-- The order of the keys in each kind of object.
use Rattle.std.specs.Prelude.{◌≡◌, List, true}
use Rattle.proto_base.specs.Texts.{Text}
use Rattle.proto_descriptors_json.specs.DescriptorText.{field_slots, field_options_slots, enum_slots, enum_value_slots, enum_range_slots, enum_options_slots, enum_value_options_slots, message_slots, range_slots, message_options_slots, service_slots, method_slots, service_options_slots, method_options_slots, file_slots, file_options_slots}
use Rattle.proto_descriptors.specs.Descriptors.{FieldDesc, EnumValueDesc, EnumDesc, MessageDesc, MethodDesc, ServiceDesc, FileOptionsDesc, FileDesc}
use Rattle.proto_descriptors_json.specs.JsonText.{Slot, are_rising, keys_of}
use Rattle.proto_descriptors.specs.declared.enumeration.EnumOptions.{EnumOptions}
use Rattle.proto_descriptors.specs.declared.enumeration.EnumReservedRange.{EnumReservedRange}
use Rattle.proto_descriptors.specs.declared.enumeration.EnumValueOptions.{EnumValueOptions}
use Rattle.proto_descriptors.specs.declared.field.FieldOptions.{FieldOptions}
use Rattle.proto_descriptors.specs.declared.message.MessageOptions.{MessageOptions}
use Rattle.proto_descriptors.specs.declared.message.NumberRange.{NumberRange}
use Rattle.proto_descriptors.specs.declared.service.MethodOptions.{MethodOptions}
use Rattle.proto_descriptors.specs.declared.service.ServiceOptions.{ServiceOptions}

-- the keys are in the order of their bytes, each once
abbrev pub IsInKeyOrder : List Slot → Type 0
IsInKeyOrder slots = are_rising (keys_of slots) ≡ true

-- in each kind of object the keys are in the order of their bytes, each once
pub record KeysRise : Type 0 where
  pub files : (f : FileDesc) → IsInKeyOrder (file_slots f)
  pub file_options : (o : FileOptionsDesc) → IsInKeyOrder (file_options_slots o)
  pub messages : (m : MessageDesc) (nested : List Text) → IsInKeyOrder (message_slots m nested)
  pub message_options : (o : MessageOptions) → IsInKeyOrder (message_options_slots o)
  pub ranges : (r : NumberRange) → IsInKeyOrder (range_slots r)
  pub fields : (f : FieldDesc) → IsInKeyOrder (field_slots f)
  pub field_options : (o : FieldOptions) → IsInKeyOrder (field_options_slots o)
  pub enums : (e : EnumDesc) → IsInKeyOrder (enum_slots e)
  pub enum_options : (o : EnumOptions) → IsInKeyOrder (enum_options_slots o)
  pub enum_values : (v : EnumValueDesc) → IsInKeyOrder (enum_value_slots v)
  pub enum_value_options : (o : EnumValueOptions) → IsInKeyOrder (enum_value_options_slots o)
  pub enum_ranges : (r : EnumReservedRange) → IsInKeyOrder (enum_range_slots r)
  pub services : (s : ServiceDesc) → IsInKeyOrder (service_slots s)
  pub service_options : (o : ServiceOptions) → IsInKeyOrder (service_options_slots o)
  pub methods : (m : MethodDesc) → IsInKeyOrder (method_slots m)
  pub method_options : (o : MethodOptions) → IsInKeyOrder (method_options_slots o)
