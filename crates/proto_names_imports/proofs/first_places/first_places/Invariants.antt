use Rattle.std.proofs.Common.{◌≡◌, ℕ, ◌+◌, ◌≤◌, List, length, map, drop, option_map}
use Rattle.indexmap.specs.IndexMap.{get_by_text}
use Rattle.proto_names_rules.specs.Faults.{file_with_path}
use Rattle.proto_names_imports.proofs.first_places.first_places.Given as goal

abbrev pub invariant-loop-place : goal.invariant-loop-place
invariant-loop-place l = record {
  within : l.place ≤ length l.texts;
  index : (path : List ℕ) → get_by_text l.index path ≡ option_map (λ k. k + l.place) (file_with_path (drop l.place (map (λ p. p.now) l.texts)) path);
}

abbrev pub decreases-loop-place : goal.decreases-loop-place
decreases-loop-place l = l.place
