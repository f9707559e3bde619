-- What proofs of this crate name of its own definitions, passed on from one place.
-- Declares nothing.
pub use Rattle.proto_descriptors_json.specs.DescriptorText.{enum_text, enum_value_text, message_texts, oneof_text, service_text, syntax_name}
pub use Rattle.proto_descriptors_json.specs.JsonText.{Slot, boolean_text, mark_if_true, member_texts, comma_separated}
unfoldable pub use Rattle.proto_descriptors_json.specs.JsonText.{array_if_any, array_text, object_if_any, object_text, json_string}
pub use Rattle.proto_descriptors_json.specs.Written.{EndsOptions, ChangesWritten, Opens, PutsMember, PutsMembers, PutsOption, PutsValue, PutsValues, Written, comma_behind, nothing_written, options_slot, event_token, token_put}
unfoldable pub use Rattle.proto_descriptors_json.specs.Written.{events_put, key_put, options_put, slot_put, slots_put, value_put, values_put, written_by}
