use Rattle.std.proofs.Common.{◌≡◌, ◌+◌, ◌*◌, drop}
use Rattle.proto_tree.specs.File.{member_tree, trees}
use Rattle.proto_edit_statements.specs.FieldPlaces.{alone_in}
use Rattle.proto_edit_statements.proofs.alone.+messages.Given as goal

abbrev pub invariant-is_alone_in_members-loop-member : goal.invariant-is_alone_in_members-loop-member
invariant-is_alone_in_members-loop-member l = alone_in l.name (trees member_tree l.members) ≡ alone_in l.name (trees member_tree (drop l.member-index l.members))

abbrev pub decreases-is_alone_in_message : goal.decreases-is_alone_in_message
decreases-is_alone_in_message l = 3 * goal.size-is_alone_in_message l + 2

abbrev pub decreases-is_alone_in_members : goal.decreases-is_alone_in_members
decreases-is_alone_in_members l = 3 * goal.size-is_alone_in_members l + 1

abbrev pub decreases-is_alone_in_member : goal.decreases-is_alone_in_member
decreases-is_alone_in_member l = 3 * goal.size-is_alone_in_member l
