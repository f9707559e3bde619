-- What proofs of this crate name of its own definitions, passed on from one place.
-- Declares nothing.
pub use Rattle.proto_names_table.specs.Filling.{AreInFront, AreNamesApart, ArePackageRows, AreRows, AreRowsOfNames, Clashes, Holds, IsClashAt, IsKept, IsNameError, IsRowAt, IsRowFree, IsRowOf, StopsIn, declaration_of, number_above, others_in, packages_in}
pub use Rattle.proto_names_table.specs.Resolved.{IsAsked, SymbolIsDeclared, IsIndexOf, IsTaken, IsWantedAt, IsWithout, under_all}
pub use Rattle.proto_names_table.specs.Search.{HitsAt, IsHit, NoneAbove, fits_first, is_seen, is_visible_as, passes}
pub use Rattle.proto_names_table.specs.Spelled.{AreSpelled, ClashFault, Named, all_named, earlier, name_above, named_by, named_in, named_on, of_package, symbol_named}
pub use Rattle.proto_names_table.specs.Tables.{AreAlike, AreAlone, AreDeclared, IsTable, IsUnchanged, aboves_of, with_declaration, files_of, is_shared_row, look, names_of, row_of}
pub use Rattle.proto_names_table.specs.Undone.{TakesRow, free_row, new_row, shared_row}
pub use Rattle.proto_names_table.specs.declared.filling.NameError.{NameError}
pub use Rattle.proto_names_table.specs.declared.filling.NameError.TheVariants.{Clash, NoMemory}
pub use Rattle.proto_names_table.specs.declared.spelled.Spelled.{Spelled}
pub use Rattle.proto_names_table.specs.declared.table.Row.{Row}
pub use Rattle.proto_names_table.specs.declared.table.Symbol.{Symbol}
pub use Rattle.proto_names_table.specs.declared.table.Table.{Table}
