use Rattle.std.proofs.Common.{◌≡◌, ◌+◌, ◌*◌, ◌++◌, take, flat_map}
use Rattle.proto_tree.specs.File.{member_tree}
use Rattle.proto_desc_checks.specs.FileFlaws.{flaws_in_blocks}
use Rattle.proto_desc_checks.proofs.file.+messages.Given as goal

abbrev pub invariant-add_members-loop-member : goal.invariant-add_members-loop-member
invariant-add_members-loop-member l = l.found.items ≡ l.initial.found.items ++ flat_map (λ m. flaws_in_blocks l.scene (member_tree m)) (take l.member-index l.members)

abbrev pub decreases-add_message : goal.decreases-add_message
decreases-add_message l = 3 * goal.size-add_message l + 2

abbrev pub decreases-add_members : goal.decreases-add_members
decreases-add_members l = 3 * goal.size-add_members l + 1

abbrev pub decreases-add_member : goal.decreases-add_member
decreases-add_member l = 3 * goal.size-add_member l
