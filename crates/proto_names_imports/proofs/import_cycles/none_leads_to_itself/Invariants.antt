use Rattle.std.proofs.Common.{ℕ, ◌<◌, get_or, map}
use Rattle.proto_names_imports.specs.Common.{all_imports, LeadsToItself}
use Rattle.proto_names_imports.proofs.import_cycles.none_leads_to_itself.Given as goal

abbrev pub invariant-loop-place : goal.invariant-loop-place
invariant-loop-place l = (k : ℕ) (d : ℕ) → k < l.place-index → LeadsToItself (all_imports 0 (map (λ v. v.items) l.imports)) (get_or l.places k d) → ⊥
