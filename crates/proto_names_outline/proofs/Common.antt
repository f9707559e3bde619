-- What proofs of the crates above name of this crate, passed on from one place. Declares nothing.
pub use Rattle.proto_names_outline.proofs.Growing.{entry_last, length-read, token_last}
pub use Rattle.proto_names_outline.proofs.InTokens.{import_here, name_here, or_at, place_is, use_here}
pub use Rattle.proto_names_outline.proofs.MovedHeads.{block_package, dotted_moved, imports_moved, leaf_imports, leaf_package, package_moved, statement_imports_moved}
pub use Rattle.proto_names_outline.proofs.PackageFirst.{same_declared}
pub use Rattle.proto_names_outline.proofs.PlainEntries.{entry_plain}
pub use Rattle.proto_names_outline.proofs.ReadTrees.{declared_rising, imports_are_strings, imports_rising, names_plain, packages_first, placed_plain, text_only, tree_span, uses_plain}
pub use Rattle.proto_names_outline.specs.FromTree.{Wanted, add_statement, block_names, block_uses, field_names, file_block, file_names, flat_uses, header_uses, imports_in, item_uses, items_in, member_uses, members_in, method_names, no_names, option_uses, picked, scope_in, setting_uses, settings_uses, signature_uses, statement_imports, statement_uses, type_uses, used_as, value_names}
pub use Rattle.proto_names_outline.specs.Listing.{IsSound, items_below, last_token, needs, package_first, path_at, path_of, read, read_on, seen, source_of, used_by, uses_in, wanted_of, whole}
pub use Rattle.proto_names_outline.specs.Moved.{move_wanted}
