use Rattle.std.proofs.Common.{◌∙◌, ap, map, arith, take_all}
use Rattle.proto_ast.specs.Views.{field_of}
use Rattle.proto_descriptors.proofs.Common.{field_desc, map_both}
use Rattle.proto_desc_build.specs.Described.{field_described}
use Rattle.proto_desc_build.proofs.Levels.{mapped_turn}
use Rattle.proto_desc_build.proofs.described_message.field_descriptors.Goals as goal

pub loop-field-preserved : goal.loop-field-preserved
loop-field-preserved c =
    mapped_turn field_desc (λ f. field_described c.args.scene.now c.args.full.now (field_of f)) c.deref-field-items.result.now c.loop-field.field-index c.field-item.result _ _ _ _ c.loop-field-test.true c.field-item.is c.in_ok-push.ensures.items c.in_ok-field_descriptor.ensures c.loop-field.invariant

pub returns : goal.returns
returns c =
    let described = field_described c.args.scene.now c.args.full.now in
    c.loop-field.invariant
    ∙ ap (map (λ f. described (field_of f))) (take_all c.loop-field.field-index c.deref-field-items.result.now (omega (arith, c.loop-field-test.false)))
    ∙ map_both described field_of c.deref-field-items.result.now
    ∙ ap (map described) (ap (map field_of) c.deref-field-items.ensures.value ∙ c.in_ok-fields.ensures)
