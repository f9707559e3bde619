use Rattle.std.proofs.Common.{◌≡◌, ℕ, ◌<◌, [], None, get_or}
use Rattle.proto_edit_statements.specs.Steps.{first_hidden}
use Rattle.proto_edit_statements.proofs.needing.first_needed.Given as goal

abbrev pub invariant-loop-place : goal.invariant-loop-place
invariant-loop-place l = (k : ℕ) → k < l.place → first_hidden l.link k (get_or l.seen k []) ≡ None
