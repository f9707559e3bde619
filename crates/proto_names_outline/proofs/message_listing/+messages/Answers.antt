use Rattle.std.proofs.Common.{ℕ, List, [], ◌∷◌, ◌++◌, refl, ap, ◌∙◌, arith}
use Rattle.std.proofs.lemmas.Result.{on_ok_weaker}
use Rattle.proto_tree.specs.File.{member_tree, trees}
use Rattle.proto_names_outline.specs.Common.{member_uses, Below, path_at, read}
use Rattle.proto_names_rules.specs.declared.kind.Kind.TheVariants.{Message}
use Rattle.proto_names_rules.specs.Skeleton.{Source, Token}
use Rattle.proto_names_outline.proofs.Growing.{adds_as, adds_below, adds_end, adds_turn, adds_used, stable}
use Rattle.proto_names_outline.proofs.Listed.{members_placed, members_parted}
use Rattle.proto_names_outline.proofs.message_listing.+messages.Goals as goal

pub list_members-loop-member-preserved : goal.list_members-loop-member-preserved
list_members-loop-member-preserved t c =
    let around = path_at (read c.args.listing.now.declared.items) c.args.around in
    let item = c.member-item.result in
    let listed = adds_as c.in_ok-list_member.ensures (λ path. refl) (λ path. ap (λ (x : List (Source ℕ)). member_uses x path (member_tree item)) c.loop-member.invariant.same) in
    record {
      around = omega (arith, c.in_ok-list_member.ensures.grown, c.loop-member.invariant.around);
      same = stable c.in_ok-list_member.ensures c.args.around c.loop-member.invariant.around ∙ c.loop-member.invariant.same;
      within = omega (arith, c.in_ok-list_member.ensures.grown, c.loop-member.invariant.within);
      rest = λ final rest. c.loop-member.invariant.rest final (adds_turn member_tree members_placed (member_uses around) (members_parted around) c.args.members.now c.loop-member.member-index item (omega arith) c.member-item.is listed rest c.loop-member.invariant.within);
    }

pub list_members-returns : goal.list_members-returns
list_members-returns t c =
    let around = path_at (read c.args.listing.now.declared.items) c.args.around in
    c.loop-member.invariant.rest c.loop-member.listing (adds_end member_tree members_placed (member_uses around) (members_parted around) c.args.members.now c.loop-member.member-index (omega arith) c.loop-member.listing (Below c.args.scope))

pub list_message-list_members-requires : goal.list_message-list_members-requires
list_message-list_members-requires t c = (rw c.deref.ensures.value (omega (arith, c.decreases)), (omega (arith, c.in_ok-index.ensures.adds.grown), omega (arith, c.in_ok-index.ensures.index.1)))

pub list_message-returns : goal.list_message-returns
list_message-returns t c =
    let path = path_at (read c.args.listing.now.declared.items) c.args.above in
    let tree = trees member_tree c.args.message.now.members.items in
    let around = stable c.in_ok-index.ensures.adds c.args.above (omega arith) in
    on_ok_weaker c.list_members.result (λ members.
    adds_used (adds_below (Token c.args.message.now.name) Message c.in_ok-index.index c.in_ok-index.ensures.adds c.in_ok-index.ensures.index.0 members)
    (ap (λ (x : List (Source ℕ)). member_uses x (path ++ Token c.args.message.now.name ∷ []) tree) around))
    (rw c.deref.ensures.value at c.list_members.ensures)
