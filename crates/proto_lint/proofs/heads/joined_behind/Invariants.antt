use Rattle.std.proofs.Common.{◌≡◌, ◌∷◌, ◌++◌, map, drop, string_bytes, flat_map}
use Rattle.proto_names_rules.specs.Joined.{joined}
use Rattle.proto_lint.proofs.heads.joined_behind.Given as goal

abbrev pub invariant-loop-word : goal.invariant-loop-word
invariant-loop-word l = string_bytes l.name ++ flat_map (λ w. 46 ∷ w) (map (λ w. w.now) (drop l.word-index l.rest)) ≡ joined (l.fn.first ∷ map (λ w. w.now) l.rest)
