use Rattle.std.proofs.Common.{◌≡◌, ◌↔◌, ℕ, ◌<◌, [], length, get_or, map}
use Rattle.proto_names_imports.specs.Walks.{IsMarked, Walks}
use Rattle.proto_names_faults.proofs.import_cycles.all_reached.Given as goal

abbrev pub invariant-loop-file : goal.invariant-loop-file
invariant-loop-file l = record {
  len : length l.marks.items ≡ l.file;
  exact : (from : ℕ) → from < l.file → (to : ℕ) → IsMarked (get_or l.marks.items from []) to ↔ Walks (map (λ v. v.items) l.next) from to;
}
