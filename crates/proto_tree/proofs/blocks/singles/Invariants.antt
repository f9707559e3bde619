use Rattle.std.proofs.Common.{length}
use Rattle.proto_tree.specs.Common.{IsRead, trees}
use Rattle.proto_tree.proofs.blocks.singles.Given as goal

abbrev pub invariant-loop-items : goal.invariant-loop-items
invariant-loop-items g l = IsRead g.T.Single.CONTEXT l.tokens (trees g.T.Single.tree l.items.items) l.rest

abbrev pub decreases-loop-items : goal.decreases-loop-items
decreases-loop-items g l = length l.rest
