use Rattle.std.proofs.Common.{◌≡◌, take}
use Rattle.proto_names_table.specs.Tables.{IsTable}
use Rattle.proto_names_update.specs.Forgetting.{AreForgotten}
use Rattle.proto_names_update.specs.NameLogs.{Fits, undone_table}
use Rattle.proto_names_update.proofs.renewal.forget_all.Given as goal

abbrev pub invariant-loop-row : goal.invariant-loop-row
invariant-loop-row l = record {
  table : IsTable l.table;
  fits : Fits l.log l.table;
  undone : undone_table l.log l.table ≡ undone_table l.initial.log l.initial.table;
  forgotten : AreForgotten (take l.row-index l.rows) l.initial.table l.table;
}
