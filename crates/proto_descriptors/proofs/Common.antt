-- What proofs of the crates above name of this crate, passed on from one place. Declares nothing.
pub use Rattle.proto_descriptors.proofs.Mapped.{map_both}
pub use Rattle.proto_descriptors.specs.Descriptors.{EnumDesc, FileDesc, Message, MessageDesc, Messages, MethodDesc, NoMessages, ServiceDesc}
pub use Rattle.proto_descriptors.specs.Views.{MessageTree, enum_desc, enum_value_desc, field_desc, file_desc, message_desc, message_step, descriptor_tree, messages_desc, method_desc, oneof_desc, service_desc}
