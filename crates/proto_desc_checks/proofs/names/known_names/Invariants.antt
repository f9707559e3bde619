use Rattle.std.proofs.Common.{◌≡◌, ℕ, List, take, map, bytes_eq, string_bytes}
use Rattle.std.specs.List.{list_any}
use Rattle.proto_desc_checks.proofs.names.known_names.Given as goal

abbrev pub invariant-loop-name : goal.invariant-loop-name
invariant-loop-name l = (w : List ℕ) → list_any (bytes_eq w) (map (λ k. k.now) l.known.keys) ≡ list_any (bytes_eq w) (map string_bytes (take l.name-index l.names))
