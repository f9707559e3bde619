use Rattle.std.proofs.Common.{ℕ, ◌<◌, List, [], get_or, map}
use Rattle.proto_files.specs.FilesRead.{AreRead, ReadOf}
use Rattle.proto_names_imports.specs.Laws.{AreImportsOf}
use Rattle.proto_names_update.proofs.kept_imports.all_imports_kept.Given as goal

abbrev pub invariant-loop-place : goal.invariant-loop-place
invariant-loop-place l = record {
  each : (reads : List ReadOf) → AreRead l.files reads → (k : ℕ) → k < l.place-index → AreImportsOf l.files reads (get_or l.places k 0) (get_or (map (λ v. v.items) l.imports) (get_or l.places k 0) []);
}
