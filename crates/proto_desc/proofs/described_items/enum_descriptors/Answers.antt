use Rattle.std.proofs.Common.{refl, arith, map, ap, ◌∙◌}
use Rattle.proto_tree.specs.File.{item_tree}
use Rattle.proto_desc_build.proofs.Common.{enums_described, enums_joined, described_turn, described_none}
use Rattle.proto_descriptors.specs.Views.{enum_desc}
use Rattle.proto_desc.proofs.described_items.enum_descriptors.Goals as goal

pub loop-item-preserved : goal.loop-item-preserved
loop-item-preserved c = described_turn (enums_described c.args.scene.now) item_tree (enums_joined c.args.scene.now) c.args.items.now c.loop-item.item-index c.item-item.result _ _ _ c.loop-item-test.true c.item-item.is c.in_ok-push_item_enum.ensures c.loop-item.invariant

pub returns : goal.returns
returns c = ap (map enum_desc) c.shrink_to_fit.ensures.items ∙ described_none (enums_described c.args.scene.now) item_tree refl c.args.items.now c.loop-item.item-index _ _ (omega arith) c.loop-item.invariant
