use Rattle.std.proofs.Common.{◌≡◌, ℕ, ◌<◌, List, get_or, map, string_bytes}
use Rattle.proto_desc_affected.proofs.still_enums.are_same.Given as goal

abbrev pub invariant-loop-k : goal.invariant-loop-k
invariant-loop-k l = (j : ℕ) → j < l.k → (d : List ℕ) → get_or (map string_bytes l.a) j d ≡ get_or (map string_bytes l.b) j d
