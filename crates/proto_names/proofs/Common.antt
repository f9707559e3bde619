-- What proofs of the crates above name of this crate, passed on from one place. Declares nothing.
pub use Rattle.proto_names.proofs.MeantNames.{name_declared_as}
pub use Rattle.proto_names.proofs.UsesOfFiles.{from_use, use_there}
pub use Rattle.proto_names.specs.LinkOfFiles.{HoldsNames, IsLinkOf, IsLinkRead, TextMeant, meant_by_link, meant_by_use}
pub use Rattle.proto_names.specs.Linking.{LinkOf, NameOf, declaring_file, has_name, if_declared, is_empty, is_visible, name_at, name_with, own_file, own_token, row_at, name_text, declaring_token}
