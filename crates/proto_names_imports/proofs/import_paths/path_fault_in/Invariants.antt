use Rattle.std.proofs.Common.{nat_eq, string_bytes}
use Rattle.std.specs.HashSet.{contains}
use Rattle.indexmap.specs.IndexMap.{get_by_text}
use Rattle.proto_names_imports.proofs.PathFaults.{IsFresh}
use Rattle.proto_names_imports.proofs.import_paths.path_fault_in.Given as goal

abbrev pub invariant-loop-import : goal.invariant-loop-import
invariant-loop-import l = IsFresh (λ w. get_by_text l.index (string_bytes w.path)) (contains nat_eq l.named) l.written l.import-index
