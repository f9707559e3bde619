use Rattle.std.proofs.Common.{ℕ, ◌++◌, List, ◌∙◌, refl, ap, sym, append-nil, arith}
use Rattle.proto_base.proofs.Common.{on_ok_weaker, all_listed, listed_turn}
use Rattle.proto_tree.specs.declared.tree.Member.{Member}
use Rattle.proto_tree.proofs.Common.{member_tree, trees, member_tree-Enum, member_tree-Oneof}
use Rattle.proto_tree.proofs.Nodes.{member_tree-Extend}
use Rattle.proto_lint_names.proofs.Common.{Found}
use Rattle.proto_lint_names.specs.RulesCommon.{Walk, walk_finds}
use Rattle.proto_lint_names.proofs.BlockTrees.{finds_of_enum, finds_of_extend, finds_of_items, finds_of_oneof}
use Rattle.proto_lint_names.proofs.walk.+members.Goals as goal

abbrev told : Walk → List ℕ → List Member → List Found
told walk scope members = walk_finds walk scope (trees member_tree members)

pub add_members-loop-member-preserved : goal.add_members-loop-member-preserved
add_members-loop-member-preserved t c =
    let walk = c.args.walk.now in
    let scope = c.args.scope.now in
    let members = c.args.members.now in
    listed_turn (told walk scope) (λ m. walk_finds walk scope (member_tree m)) (finds_of_items walk member_tree scope) members c.loop-member.member-index c.member-item.result _
    c.loop-member.found c.add_member.new.found (c.args.found.now ++ told walk scope members)
    c.loop-member-test.true c.member-item.is c.in_ok-add_member.ensures c.loop-member.invariant

pub add_members-returns : goal.add_members-returns
add_members-returns t c =
    let walk = c.args.walk.now in
    let scope = c.args.scope.now in
    all_listed (told walk scope) refl c.args.members.now c.loop-member.member-index c.loop-member.found (c.args.found.now ++ told walk scope c.args.members.now) c.loop-member-test.false c.loop-member.invariant

pub add_message_block-add_members-requires : goal.add_message_block-add_members-requires
add_message_block-add_members-requires t c = (rw c.deref-2.ensures.value (omega arith), tt)

pub add_member-returns-in-Oneof : goal.add_member-returns-in-Oneof
add_member-returns-in-Oneof t c =
    let found = c.args.found.now in
    let is = ap (λ (m : Member). walk_finds c.args.walk.now c.args.scope.now (member_tree m)) c.in-Oneof.is
    ∙ ap (walk_finds c.args.walk.now c.args.scope.now) (member_tree-Oneof c.in-Oneof.oneof) ∙ finds_of_oneof c.args.walk.now c.args.scope.now c.in-Oneof.oneof in
    on_ok_weaker c.add_oneof.result (λ e. e ∙ ap (λ (fs : List Found). found ++ fs) (sym is)) c.add_oneof.ensures

pub add_member-returns-in-Enum : goal.add_member-returns-in-Enum
add_member-returns-in-Enum t c =
    let found = c.args.found.now in
    let is = ap (λ (m : Member). walk_finds c.args.walk.now c.args.scope.now (member_tree m)) c.in-Enum.is
    ∙ ap (walk_finds c.args.walk.now c.args.scope.now) (member_tree-Enum c.in-Enum.names) ∙ finds_of_enum c.args.walk.now c.args.scope.now c.in-Enum.names in
    on_ok_weaker c.add_enum.result (λ e. e ∙ ap (λ (fs : List Found). found ++ fs) (sym is)) c.add_enum.ensures

pub add_member-returns-in-Extend : goal.add_member-returns-in-Extend
add_member-returns-in-Extend t c =
    let found = c.args.found.now in
    let is = ap (λ (m : Member). walk_finds c.args.walk.now c.args.scope.now (member_tree m)) c.in-Extend.is
    ∙ ap (walk_finds c.args.walk.now c.args.scope.now) (member_tree-Extend c.in-Extend.field-0) ∙ finds_of_extend c.args.walk.now c.args.scope.now c.in-Extend.field-0 in
    sym (ap (λ (fs : List Found). found ++ fs) is ∙ append-nil found)
