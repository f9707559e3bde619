use Rattle.std.proofs.Common.{◌≡◌, take}
use Rattle.proto_tree.specs.Reads.{classed_in}
use Rattle.proto_tree.proofs.classing.lexemes.Given as goal

abbrev pub invariant-loop-i : goal.invariant-loop-i
invariant-loop-i l = l.found.items ≡ classed_in l.profile l.source (take l.i l.tokens)
