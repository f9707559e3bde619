use Rattle.std.proofs.Common.{◌≡◌, ◌≤◌, List, length, map}
use Rattle.proto_files.specs.FilesRead.{AreRead, ReadOf}
use Rattle.proto_names_table.specs.Tables.{IsTable}
use Rattle.proto_names_update.specs.NameLogs.{Fits, undone_table}
use Rattle.proto_names_update.specs.NamesOfFiles.{declared_by}
use Rattle.proto_names_update.proofs.Again.{AreSoManyAgain}
use Rattle.proto_names_update.proofs.renewed_names.declare_places.Given as goal

abbrev pub invariant-loop-place : goal.invariant-loop-place
invariant-loop-place l = record {
  table : IsTable l.table;
  fits : Fits l.log l.table;
  undone : undone_table l.log l.table ≡ undone_table l.initial.log l.initial.table;
  size : length l.initial.table.rows.items ≤ length l.table.rows.items;
  again : (reads : List ReadOf) → AreRead l.files reads → AreSoManyAgain l.initial.table l.table (declared_by l.files reads) l.places (map (λ v. v.items) l.rows) (map (λ v. v.items) l.renewed.items) l.place-index;
}
