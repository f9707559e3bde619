use Rattle.std.proofs.Common.{◌≡◌, ℕ, ◌<◌, List, [], length, get_or, map, All}
use Rattle.proto_files.specs.FilesRead.{AreRead, ReadOf}
use Rattle.proto_names_imports.specs.Laws.{AreImportsOf}
use Rattle.proto_names_update.proofs.kept_imports.imports_at.Given as goal

abbrev pub invariant-loop-place : goal.invariant-loop-place
invariant-loop-place l = record {
  len : length l.lists.items ≡ l.place-index;
  within : All (λ v. All (λ i. i.to < length l.files) v.items) l.lists.items;
  each : (reads : List ReadOf) → AreRead l.files reads → (k : ℕ) → k < l.place-index → AreImportsOf l.files reads (get_or l.places k 0) (get_or (map (λ v. v.items) l.lists.items) k []);
}
