use Rattle.std.proofs.Common.{◌≡◌, ◌+◌, ◌*◌, drop}
use Rattle.proto_tree.specs.File.{member_tree, trees}
use Rattle.proto_edit_statements.specs.FieldPlaces.{field_in}
use Rattle.proto_edit_statements.proofs.fields.+messages.Given as goal

abbrev pub invariant-place_in_members-loop-member : goal.invariant-place_in_members-loop-member
invariant-place_in_members-loop-member l = field_in l.name (trees member_tree l.members) ≡ field_in l.name (trees member_tree (drop l.member-index l.members))

abbrev pub decreases-place_in_message : goal.decreases-place_in_message
decreases-place_in_message l = 3 * goal.size-place_in_message l + 2

abbrev pub decreases-place_in_members : goal.decreases-place_in_members
decreases-place_in_members l = 3 * goal.size-place_in_members l + 1

abbrev pub decreases-place_in_member : goal.decreases-place_in_member
decreases-place_in_member l = 3 * goal.size-place_in_member l
