-- What proofs of this crate name of its own definitions, passed on from one place.
-- Declares nothing.
pub use Rattle.proto_names_outline.specs.FromTree.{Wanted, add_statement, block_names, block_uses, field_names, file_block, file_names, file_statement, flat_uses, header_uses, imports_in, item_uses, items_in, member_uses, members_in, method_names, no_names, option_uses, picked, scope_in, setting_uses, settings_uses, signature_uses, statement_imports, statement_uses, type_uses, used_as, value_names}
pub use Rattle.proto_names_outline.specs.Listing.{Adds, IsSound, items_below, last_token, later, needs, package_first, path_at, path_of, read, read_on, seen, used_by, uses_in, wanted_of, whole}
pub use Rattle.proto_names_outline.specs.declared.listing.Above.{Above}
pub use Rattle.proto_names_outline.specs.declared.listing.Above.TheVariants.{Below, Outermost}
pub use Rattle.proto_names_outline.specs.declared.listing.Listed.{Listed}
pub use Rattle.proto_names_outline.specs.declared.listing.Listing.{Listing}
