use Rattle.std.proofs.Common.{ℕ, ◌<◌}
use Rattle.proto_desc.specs.CheckSteps.{HasNoFlaw}
use Rattle.proto_desc.proofs.checking.check_each.Given as goal

abbrev pub invariant-loop-file : goal.invariant-loop-file
invariant-loop-file l = (k : ℕ) → k < l.file → HasNoFlaw l.linked.files k
