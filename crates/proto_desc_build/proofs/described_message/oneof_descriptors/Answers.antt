use Rattle.std.proofs.Common.{refl, arith}
use Rattle.proto_tree.specs.File.{member_tree}
use Rattle.proto_desc_build.specs.Described.{oneof_names}
use Rattle.proto_desc_build.proofs.Levels.{oneofs_joined, described_turn, described_none}
use Rattle.proto_desc_build.proofs.described_message.oneof_descriptors.Goals as goal

pub loop-member-preserved : goal.loop-member-preserved
loop-member-preserved c = described_turn (oneof_names c.args.scene.now) member_tree (oneofs_joined c.args.scene.now) c.args.members.now c.loop-member.member-index c.member-item.result _ _ _ c.loop-member-test.true c.member-item.is c.in_ok-push_oneof.ensures c.loop-member.invariant

pub returns : goal.returns
returns c = described_none (oneof_names c.args.scene.now) member_tree refl c.args.members.now c.loop-member.member-index _ _ (omega arith) c.loop-member.invariant
