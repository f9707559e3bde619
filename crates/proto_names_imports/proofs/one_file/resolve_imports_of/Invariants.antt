use Rattle.std.proofs.Common.{◌≡◌, map, nat_eq, string_bytes, take}
use Rattle.std.specs.HashSet.{contains}
use Rattle.proto_files.specs.GivenFiles.{paths_of}
use Rattle.proto_names_rules.specs.Faults.{file_with_path, imports_of}
use Rattle.proto_names_imports.specs.Importing.{asked_by, import_from}
use Rattle.proto_names_imports.proofs.PathFaults.{IsFresh}
use Rattle.proto_names_imports.proofs.one_file.resolve_imports_of.Given as goal

abbrev pub invariant-loop-import : goal.invariant-loop-import
invariant-loop-import l = record {
  fresh : IsFresh (λ w. file_with_path (paths_of l.files) (string_bytes w.path)) (contains nat_eq l.named) l.written l.import-index;
  found : map (import_from l.file) l.imports.items ≡ imports_of (paths_of l.files) (map (asked_by l.file) (take l.import-index l.written));
}
