use Rattle.std.proofs.Common.{refl, arith}
use Rattle.proto_tree.specs.File.{item_tree}
use Rattle.proto_desc_build.proofs.Common.{services_described, services_joined, described_turn, described_none}
use Rattle.proto_desc.proofs.described_items.service_descriptors.Goals as goal

pub loop-item-preserved : goal.loop-item-preserved
loop-item-preserved c = described_turn (services_described c.args.scene.now) item_tree (services_joined c.args.scene.now) c.args.items.now c.loop-item.item-index c.item-item.result _ _ _ c.loop-item-test.true c.item-item.is c.in_ok-push_service.ensures c.loop-item.invariant

pub returns : goal.returns
returns c = described_none (services_described c.args.scene.now) item_tree refl c.args.items.now c.loop-item.item-index _ _ (omega arith) c.loop-item.invariant
