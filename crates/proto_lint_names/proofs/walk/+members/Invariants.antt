use Rattle.std.proofs.Common.{◌≡◌, ◌+◌, ◌*◌, ◌++◌, drop}
use Rattle.proto_tree.specs.File.{member_tree, trees}
use Rattle.proto_lint_names.specs.Walks.{walk_finds}
use Rattle.proto_lint_names.proofs.walk.+members.Given as goal

abbrev pub invariant-add_members-loop-member : goal.invariant-add_members-loop-member
invariant-add_members-loop-member l = l.found ++ walk_finds l.walk l.scope (trees member_tree (drop l.member-index l.members)) ≡ l.initial.found ++ walk_finds l.walk l.scope (trees member_tree l.members)

abbrev pub decreases-add_message_block : goal.decreases-add_message_block
decreases-add_message_block l = 3 * goal.size-add_message_block l + 2

abbrev pub decreases-add_members : goal.decreases-add_members
decreases-add_members l = 3 * goal.size-add_members l + 1

abbrev pub decreases-add_member : goal.decreases-add_member
decreases-add_member l = 3 * goal.size-add_member l
