use Rattle.std.proofs.Common.{codes, arith}
use Rattle.proto_tree.specs.File.{member_tree}
use Rattle.proto_custom_options.proofs.CustomLists.{all_customs, customs_turn}
use Rattle.proto_custom_options.proofs.custom_options.+messages.Goals as goal

pub push_members-loop-member-preserved : goal.push_members-loop-member-preserved
push_members-loop-member-preserved t c = customs_turn (codes "MessageOptions") member_tree c.args.members.now c.loop-member.member-index c.member-item.result _ _ _ c.loop-member-test.true c.member-item.is c.in_ok-push_member.ensures c.loop-member.invariant

pub push_members-returns : goal.push_members-returns
push_members-returns t c = all_customs (codes "MessageOptions") member_tree c.args.members.now c.loop-member.member-index _ _ (omega arith) c.loop-member.invariant
