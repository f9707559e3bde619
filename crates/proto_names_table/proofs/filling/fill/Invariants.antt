use Rattle.std.proofs.Common.{◌≡◌, List, ◌++◌, length, drop, take}
use Rattle.proto_names_table.specs.Common.{Named, named_in, IsTable, AreRowsOfNames, Holds, IsKept}
use Rattle.proto_names_table.proofs.filling.fill.Given as goal

abbrev pub invariant-loop-k : goal.invariant-loop-k
invariant-loop-k l = record {
  table : IsTable l.names;
  kept : IsKept l.fn.table l.names;
  count : length l.all.items ≡ l.k;
  rows : AreRowsOfNames l.names (named_in l.file l.spelled) l.all.items;
  held : (ds : List Named) → Holds l.fn.table ds → Holds l.names (ds ++ drop (length l.fn.rows.items) (take l.k (named_in l.file l.spelled)));
}
