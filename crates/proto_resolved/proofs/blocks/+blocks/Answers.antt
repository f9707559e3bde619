use Rattle.std.proofs.Common.{refl, ap, ◌∙◌, arith}
use Rattle.proto_base.proofs.Common.{all_listed}
use Rattle.proto_tree.specs.declared.tree.Member.{Member}
use Rattle.proto_tree.proofs.Common.{member_tree, trees, member_tree-Enum, member_tree-Oneof}
use Rattle.proto_tree.proofs.Nodes.{member_tree-Extend}
use Rattle.proto_ast.proofs.Common.{wanted_turn}
use Rattle.proto_resolved.specs.Blocks.{holders_in, may_hold}
use Rattle.proto_resolved.proofs.BlockTrees.{enum_alone, extend_alone, one_pushed, oneof_alone}
use Rattle.proto_resolved.proofs.blocks.+blocks.Goals as goal

pub push_members-loop-member-preserved : goal.push_members-loop-member-preserved
push_members-loop-member-preserved t c =
    wanted_turn may_hold member_tree c.args.members.now c.loop-member.member-index c.member-item.result _ _ _ c.loop-member-test.true c.member-item.is c.in_ok-push_member.ensures c.loop-member.invariant

pub push_members-returns : goal.push_members-returns
push_members-returns t c = all_listed (λ members. holders_in (trees member_tree members)) refl c.args.members.now c.loop-member.member-index _ _ (omega arith) c.loop-member.invariant

pub push_member-returns-in_ok-push-in-Oneof : goal.push_member-returns-in_ok-push-in-Oneof
push_member-returns-in_ok-push-in-Oneof t c =
    one_pushed c.args.found.now.items _ _ (member_tree c.args.member.now) c.in_ok-push-in-Oneof.ensures.items
    (ap (λ (m : Member). holders_in (member_tree m)) c.in-Oneof.is ∙ ap holders_in (member_tree-Oneof c.in-Oneof.oneof) ∙ oneof_alone c.in-Oneof.oneof)

pub push_member-returns-in_ok-push-in-Enum : goal.push_member-returns-in_ok-push-in-Enum
push_member-returns-in_ok-push-in-Enum t c =
    one_pushed c.args.found.now.items _ _ (member_tree c.args.member.now) c.in_ok-push-in-Enum.ensures.items
    (ap (λ (m : Member). holders_in (member_tree m)) c.in-Enum.is ∙ ap holders_in (member_tree-Enum c.in-Enum.enumeration) ∙ enum_alone c.in-Enum.enumeration)

pub push_member-returns-in_ok-push-in-Extend : goal.push_member-returns-in_ok-push-in-Extend
push_member-returns-in_ok-push-in-Extend t c =
    one_pushed c.args.found.now.items _ _ (member_tree c.args.member.now) c.in_ok-push-in-Extend.ensures.items
    (ap (λ (m : Member). holders_in (member_tree m)) c.in-Extend.is ∙ ap holders_in (member_tree-Extend c.in-Extend.extend) ∙ extend_alone c.in-Extend.extend)
