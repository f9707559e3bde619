use Rattle.std.proofs.Common.{◌≡◌, ◌+◌, ◌*◌, ◌≤◌, length, drop}
use Rattle.proto_tree.specs.File.{trees, member_tree}
use Rattle.proto_names_outline.specs.Common.{Below, Listing, member_uses, Adds, needs, path_at, read}
use Rattle.proto_names_outline.proofs.Listed.{members_placed}
use Rattle.proto_names_outline.proofs.message_listing.+messages.Given as goal

abbrev pub invariant-list_members-loop-member : goal.invariant-list_members-loop-member
invariant-list_members-loop-member l =
    let outer = path_at (read l.fn.listing.declared.items) l.around in
    record {
      around : needs l.around ≤ length l.listing.declared.items;
      same : path_at (read l.listing.declared.items) l.around ≡ outer;
      within : needs (Below l.scope) ≤ length l.listing.declared.items;
      rest : (final : Listing) → Adds l.listing final (Below l.scope) (λ path. members_placed path (trees member_tree (drop l.member-index l.members))) (λ path. member_uses outer path (trees member_tree (drop l.member-index l.members))) → Adds l.fn.listing final (Below l.scope) (λ path. members_placed path (trees member_tree l.members)) (λ path. member_uses outer path (trees member_tree l.members));
    }

abbrev pub decreases-list_message : goal.decreases-list_message
decreases-list_message l = 3 * goal.size-list_message l + 2

abbrev pub decreases-list_members : goal.decreases-list_members
decreases-list_members l = 3 * goal.size-list_members l + 1

abbrev pub decreases-list_member : goal.decreases-list_member
decreases-list_member l = 3 * goal.size-list_member l
