use Rattle.std.proofs.Common.{◌≡◌, ◌+◌, ◌*◌, ◌++◌, map, drop, codes}
use Rattle.proto_tree.specs.File.{member_tree, trees}
use Rattle.proto_custom_options.specs.CustomOptions.{customs_below}
use Rattle.proto_custom_options.specs.Views.{custom_of}
use Rattle.proto_custom_options.proofs.custom_options.+messages.Given as goal

abbrev pub invariant-push_members-loop-member : goal.invariant-push_members-loop-member
invariant-push_members-loop-member l = map custom_of l.found.items ++ customs_below (codes "MessageOptions") (trees member_tree (drop l.member-index l.members)) ≡ map custom_of l.fn.found.items ++ customs_below (codes "MessageOptions") (trees member_tree l.members)

abbrev pub decreases-push_message : goal.decreases-push_message
decreases-push_message l = 3 * goal.size-push_message l + 2

abbrev pub decreases-push_members : goal.decreases-push_members
decreases-push_members l = 3 * goal.size-push_members l + 1

abbrev pub decreases-push_member : goal.decreases-push_member
decreases-push_member l = 3 * goal.size-push_member l
