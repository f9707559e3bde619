use Rattle.std.proofs.Common.{refl, arith}
use Rattle.proto_tree.specs.File.{service_item_tree}
use Rattle.proto_desc_build.specs.Described.{methods_described}
use Rattle.proto_desc_build.proofs.Levels.{methods_joined, described_turn, described_none}
use Rattle.proto_desc_build.proofs.described_service.method_descriptors.Goals as goal

pub loop-item-preserved : goal.loop-item-preserved
loop-item-preserved c = described_turn (methods_described c.args.scene.now) service_item_tree (methods_joined c.args.scene.now) c.args.items.now c.loop-item.item-index c.item-item.result _ _ _ c.loop-item-test.true c.item-item.is c.in_ok-push_method.ensures c.loop-item.invariant

pub returns : goal.returns
returns c = described_none (methods_described c.args.scene.now) service_item_tree refl c.args.items.now c.loop-item.item-index _ _ (omega arith) c.loop-item.invariant
