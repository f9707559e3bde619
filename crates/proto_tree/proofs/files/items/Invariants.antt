use Rattle.std.proofs.Common.{◌≡◌, length}
use Rattle.proto_tree.specs.declared.context.Context.TheVariants as context
use Rattle.proto_tree.specs.Common.{trees, item_tree, last_of, IsRead}
use Rattle.proto_tree.proofs.files.items.Given as goal

abbrev pub invariant-loop-rest : goal.invariant-loop-rest
invariant-loop-rest l = record { read : IsRead context.Start l.tokens (trees item_tree l.items.items) l.rest; last : last_of context.Start (trees item_tree l.items.items) ≡ l.context }

abbrev pub decreases-loop-rest : goal.decreases-loop-rest
decreases-loop-rest l = length l.rest
