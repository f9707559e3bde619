use Rattle.std.proofs.Common.{map, take}
use Rattle.proto_names_table.specs.Common.{all_named, IsTable, ArePackageRows, Holds, packages_in}
use Rattle.proto_names_table.proofs.filling.declare_packages.Given as goal

abbrev pub invariant-loop-file : goal.invariant-loop-file
invariant-loop-file l = record {
  table : IsTable l.names;
  held : Holds l.names (packages_in (all_named 0 (take l.file (map (λ v. v.items) l.files))));
  rows : ArePackageRows l.names (take l.file (map (λ v. v.items) l.files)) (map (λ v. v.items) l.rows.items);
}
