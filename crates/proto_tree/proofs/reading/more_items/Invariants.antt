use Rattle.proto_tree.specs.declared.class.Expected.TheVariants as want
use Rattle.proto_tree.specs.Reading.{behind_at}
use Rattle.proto_tree.proofs.Many.{IsSoFar}
use Rattle.proto_tree.proofs.reading.more_items.Given as goal

abbrev pub invariant-loop : goal.invariant-loop
invariant-loop g l = IsSoFar (want.One l.separator) (behind_at l.separator (g.T.Listed.item_at l.want)) l.tokens l.items l.counter l.rest
