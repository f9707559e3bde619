use Rattle.proto_tree.proofs.Values.{IsWithin}
use Rattle.proto_tree.proofs.options.within.Given as goal

abbrev pub invariant-loop : goal.invariant-loop
invariant-loop l = IsWithin l.tokens l.atoms l.colon l.depth l.counter l.rest
