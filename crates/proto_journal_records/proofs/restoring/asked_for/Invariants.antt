use Rattle.std.proofs.Common.{◌≡◌, ℕ, List, take, map, bytes_eq, string_bytes}
use Rattle.std.specs.List.{list_any}
use Rattle.proto_journal_records.proofs.restoring.asked_for.Given as goal

abbrev pub invariant-loop-path : goal.invariant-loop-path
invariant-loop-path l = (w : List ℕ) → list_any (bytes_eq w) (map (λ k. k.now) l.known.keys) ≡ list_any (bytes_eq w) (map string_bytes (take l.path-index l.paths))
