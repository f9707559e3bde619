use Rattle.std.proofs.Common.{◌≡◌, List, ◌++◌, length, map, take}
use Rattle.proto_names_rules.specs.Names.{Symbol}
use Rattle.proto_names_table.specs.Filling.{AreRowsOfNames, Holds, IsKept}
use Rattle.proto_names_table.specs.Resolved.{IsIndexOf}
use Rattle.proto_names_table.specs.Spelled.{Named, named_in, symbol_named}
use Rattle.proto_names_table.specs.Tables.{IsTable}
use Rattle.proto_names_update.specs.NameLogs.{Fits, undone_table}
use Rattle.proto_names_update.proofs.renewal.declare_all_again.Given as goal

abbrev pub invariant-loop-entry : goal.invariant-loop-entry
invariant-loop-entry l = record {
  table : IsTable l.table;
  fits : Fits l.log l.table;
  undone : undone_table l.log l.table ≡ undone_table l.initial.log l.initial.table;
  kept : IsKept l.initial.table l.table;
  count : length l.rows.items ≡ l.entry-index;
  rows : AreRowsOfNames l.table (named_in l.file l.spelled) l.rows.items;
  index : (symbols : List Symbol) → IsIndexOf l.initial.table symbols → IsIndexOf l.table (symbols ++ map symbol_named (take l.entry-index (named_in l.file l.spelled)));
  held : (ds : List Named) → Holds l.initial.table ds → Holds l.table (ds ++ take l.entry-index (named_in l.file l.spelled));
}
