use Rattle.std.proofs.Common.{◌+◌, ◌*◌, ◌≤◌, length}
use Rattle.proto_tree.specs.declared.context.Context.TheVariants as context
use Rattle.proto_tree.specs.Common.{IsRead, trees, member_tree}
use Rattle.proto_tree.proofs.blocks.+messages.Given as goal

abbrev pub decreases-members : goal.decreases-members
decreases-members l = 2 * length l.tokens.now + 1

abbrev pub decreases-member : goal.decreases-member
decreases-member l = 2 * length l.tokens.now

abbrev pub invariant-members-loop-items : goal.invariant-members-loop-items
invariant-members-loop-items l = record { read : IsRead context.Message l.tokens (trees member_tree l.items.items) l.rest; short : length l.rest ≤ length l.tokens }

abbrev pub decreases-members-loop-items : goal.decreases-members-loop-items
decreases-members-loop-items l = length l.rest
