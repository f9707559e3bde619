use Rattle.std.proofs.Common.{◌∙◌, List, ap, map, Bor, arith, take_all}
use Rattle.proto_tree.specs.declared.tree.Value.{Value}
use Rattle.proto_desc_build.specs.Described.{value_described}
use Rattle.proto_descriptors.proofs.Common.{map_both, enum_value_desc}
use Rattle.proto_desc_build.proofs.Levels.{mapped_turn}
use Rattle.proto_desc_build.proofs.described_enum.value_descriptors.Goals as goal

pub loop-value-preserved : goal.loop-value-preserved
loop-value-preserved c =
    mapped_turn enum_value_desc (λ v. value_described c.args.scene.now v.now) c.args.values.now c.loop-value.value-index c.value-item.result _ _ _ _ c.loop-value-test.true c.value-item.is c.in_ok-push.ensures.items c.in_ok-value_descriptor.ensures c.loop-value.invariant

pub returns : goal.returns
returns c =
    c.loop-value.invariant
    ∙ ap (λ (vs : List (Bor Value)). map (λ v. value_described c.args.scene.now v.now) vs) (take_all c.loop-value.value-index c.args.values.now (omega (arith, c.loop-value-test.false)))
    ∙ map_both {A = Bor Value} {B = Value} (value_described c.args.scene.now) (λ v. v.now) c.args.values.now
