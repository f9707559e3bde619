use Rattle.std.proofs.Common.{◌++◌, map, take}
use Rattle.proto_names_table.specs.Common.{all_named, IsTable, Holds, others_in, packages_in}
use Rattle.proto_names_table.proofs.Passes.{AreRowsTo}
use Rattle.proto_names_table.proofs.filling.declare_others.Given as goal

abbrev pub invariant-loop-file : goal.invariant-loop-file
invariant-loop-file l = record {
  table : IsTable l.names;
  held : Holds l.names (packages_in (all_named 0 (map (λ v. v.items) l.files)) ++ others_in (all_named 0 (take l.file (map (λ v. v.items) l.files))));
  rows : AreRowsTo l.names (map (λ v. v.items) l.files) (map (λ v. v.items) l.rows.items) l.file;
}
