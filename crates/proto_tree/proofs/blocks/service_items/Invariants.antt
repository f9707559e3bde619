use Rattle.std.proofs.Common.{length}
use Rattle.proto_tree.specs.declared.context.Context.TheVariants as context
use Rattle.proto_tree.specs.Common.{IsRead, trees, service_item_tree}
use Rattle.proto_tree.proofs.blocks.service_items.Given as goal

abbrev pub invariant-loop-items : goal.invariant-loop-items
invariant-loop-items l = IsRead context.Service l.tokens (trees service_item_tree l.items.items) l.rest

abbrev pub decreases-loop-items : goal.decreases-loop-items
decreases-loop-items l = length l.rest
