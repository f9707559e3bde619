use Rattle.std.proofs.Common.{◌≡◌, ◌+◌, ◌*◌, ◌++◌, map, drop}
use Rattle.proto_tree.specs.File.{trees, member_tree}
use Rattle.proto_resolved.specs.Blocks.{block_of, holders_in}
use Rattle.proto_resolved.proofs.blocks.+blocks.Given as goal

abbrev pub invariant-push_members-loop-member : goal.invariant-push_members-loop-member
invariant-push_members-loop-member l = map block_of l.found.items ++ holders_in (trees member_tree (drop l.member-index l.members)) ≡ map block_of l.fn.found.items ++ holders_in (trees member_tree l.members)

abbrev pub decreases-push_message : goal.decreases-push_message
decreases-push_message l = 3 * goal.size-push_message l + 2

abbrev pub decreases-push_members : goal.decreases-push_members
decreases-push_members l = 3 * goal.size-push_members l + 1

abbrev pub decreases-push_member : goal.decreases-push_member
decreases-push_member l = 3 * goal.size-push_member l
