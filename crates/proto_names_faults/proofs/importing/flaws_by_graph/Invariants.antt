use Rattle.std.proofs.Common.{ℕ, List, map}
use Rattle.proto_names_imports.specs.Common.{IsFileIndex}
use Rattle.proto_names_faults.specs.Common.{AreFlawsOf, IsImportBefore}
use Rattle.proto_names_faults.proofs.importing.flaws_by_graph.Given as goal

abbrev pub invariant-loop-file : goal.invariant-loop-file
invariant-loop-file l = (paths : List (List ℕ)) → IsFileIndex l.graph.index.now paths → AreFlawsOf (IsImportBefore paths l.graph.marks.now (map (λ v. v.items) l.files) l.file) l.found.items
