use Rattle.std.proofs.Common.{take, Contains}
use Rattle.proto_desc_numbers.specs.Flaws.{IsLeastOfFlaws}
use Rattle.proto_desc_numbers.proofs.flaw.least.Given as goal

abbrev pub invariant-loop-flaw : goal.invariant-loop-flaw
invariant-loop-flaw l = IsLeastOfFlaws (Contains (take l.flaw-index l.found)) l.least
