use Rattle.std.proofs.Common.{◌≡◌, ◌<◌, ℕ, get_or}
use Rattle.proto_lint.specs.Packages.{slashed}
use Rattle.proto_lint.proofs.packages.is_slashed.Given as goal

abbrev pub invariant-loop-place : goal.invariant-loop-place
invariant-loop-place l = (k : ℕ) → k < l.place → get_or l.directory k 0 ≡ get_or (slashed l.name) k 0
