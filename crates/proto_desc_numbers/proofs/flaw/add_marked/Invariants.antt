use Rattle.std.proofs.Common.{◌≡◌, ◌++◌, take}
use Rattle.proto_desc_numbers.specs.Flaws.{marked}
use Rattle.proto_desc_numbers.proofs.flaw.add_marked.Given as goal

abbrev pub invariant-loop-i : goal.invariant-loop-i
invariant-loop-i l = l.found.items ≡ l.initial.found.items ++ marked l.kind (take l.i l.tokens) (take l.i l.flags)
