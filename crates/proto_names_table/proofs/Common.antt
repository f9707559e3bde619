-- What proofs of the crates above name of this crate, passed on from one place. Declares nothing.
pub use Rattle.proto_names_table.proofs.NameFaults.{as_named, clashes_are_faults, declared_is_named, same_symbols}
pub use Rattle.proto_names_table.proofs.Resolved.{Step, absolute_is, absolute_none, empty_is, if_none, is_empty_list, joined_all, one_step, other_fails, relative_is, relative_none, shows_from, shows_to, under_all_named}
pub use Rattle.proto_names_table.proofs.Search.{joined_more, outermost, pick, plain_take}
pub use Rattle.proto_names_table.specs.Filling.{AreRows, IsNameError, IsRowAt}
pub use Rattle.proto_names_table.specs.LastWords.{AreListed, named_as}
pub use Rattle.proto_names_table.specs.Naming.{AreSpans, tree_named, used_named}
pub use Rattle.proto_names_table.specs.Resolved.{IsAsked, IsIndexOf, IsWantedAt, under_all}
pub use Rattle.proto_names_table.specs.Search.{HitsAt, IsHit, is_seen, is_visible_as, passes}
pub use Rattle.proto_names_table.specs.Spelled.{AreSpelled, ClashFault, Named, all_named, named_in, symbol_named}
pub use Rattle.proto_names_table.specs.Tables.{IsTable, aboves_of, files_of, look, names_of}
