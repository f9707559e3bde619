use Rattle.std.proofs.Common.{◌≡◌, ◌+◌, ◌*◌, drop}
use Rattle.proto_tree.specs.File.{member_tree, trees}
use Rattle.proto_desc_extensions.specs.Common.{has_extend}
use Rattle.proto_desc_extensions.proofs.extends.+extends.Given as goal

abbrev pub invariant-has_extend_in_members-loop-member : goal.invariant-has_extend_in_members-loop-member
invariant-has_extend_in_members-loop-member l = has_extend (trees member_tree l.members) ≡ has_extend (trees member_tree (drop l.member-index l.members))

abbrev pub decreases-has_extend_in_message : goal.decreases-has_extend_in_message
decreases-has_extend_in_message l = 3 * goal.size-has_extend_in_message l + 2

abbrev pub decreases-has_extend_in_members : goal.decreases-has_extend_in_members
decreases-has_extend_in_members l = 3 * goal.size-has_extend_in_members l + 1

abbrev pub decreases-has_extend_in_member : goal.decreases-has_extend_in_member
decreases-has_extend_in_member l = 3 * goal.size-has_extend_in_member l
