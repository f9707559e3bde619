use Rattle.std.proofs.Common.{◌≡◌, ◌⊎◌, ℕ, ◌<◌, false, [], length, get_or, map}
use Rattle.proto_names_affected.specs.Marking.{ArePlacesMarked}
use Rattle.proto_names.specs.Sight.{public_files}
use Rattle.proto_names.proofs.updated_imports.files_to_ask.Given as goal

abbrev pub invariant-loop-k : goal.invariant-loop-k
invariant-loop-k l = record {
  len : length l.stale ≡ length l.imports;
  places : ArePlacesMarked l.stale l.places;
  each : (file : ℕ) → file < length l.imports → get_or l.stale file false ≡ false → (j : ℕ) → j < l.k
      → (public_files (get_or (map (λ v. v.items) l.imports) (get_or l.places j 0) []) ≡ public_files (get_or (map (λ v. v.items) l.now) j []))
      ⊎ (get_or (get_or l.seen file []) (get_or l.places j 0) false ≡ false);
}
