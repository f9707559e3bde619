use Rattle.std.proofs.Common.{◌≡◌, map, take}
use Rattle.proto_names_table.specs.Tables.{IsTable}
use Rattle.proto_names_update.specs.Forgetting.{AreForgotten}
use Rattle.proto_names_update.specs.NameLogs.{Fits, undone_table}
use Rattle.proto_names_update.specs.RenewedNames.{rows_at}
use Rattle.proto_names_update.proofs.renewed_names.forget_places.Given as goal

abbrev pub invariant-loop-place : goal.invariant-loop-place
invariant-loop-place l = record {
  table : IsTable l.table;
  fits : Fits l.log l.table;
  undone : undone_table l.log l.table ≡ undone_table l.initial.log l.initial.table;
  forgotten : AreForgotten (rows_at (map (λ v. v.items) l.rows) (take l.place-index l.places)) l.initial.table l.table;
}
