use Rattle.std.proofs.Common.{List, ◌++◌, ◌∙◌, ap, map, take_all}
use Rattle.proto_ast.specs.Views.{field_of}
use Rattle.proto_descriptors.proofs.Common.{field_desc, map_both}
use Rattle.proto_descriptors.specs.Descriptors.{FieldDesc}
use Rattle.proto_desc_build.specs.Described.{extension_described}
use Rattle.proto_desc_build.proofs.Levels.{mapped_behind}
use Rattle.proto_desc_build.proofs.described_extensions.push_each.Goals as goal

pub loop-field-preserved : goal.loop-field-preserved
loop-field-preserved c =
    mapped_behind field_desc (λ f. extension_described c.args.scene.now c.args.extendee.now (field_of f)) (map field_desc c.args.found.now.items) c.args.fields.now c.loop-field.field-index c.field-item.result _ _ _ _ c.loop-field-test.true c.field-item.is c.in_ok-push.ensures.items c.in_ok-extension_descriptor.ensures c.loop-field.invariant

pub returns : goal.returns
returns c =
    let described = extension_described c.args.scene.now c.args.extendee.now in
    c.loop-field.invariant
    ∙ ap (λ (ds : List FieldDesc). map field_desc c.args.found.now.items ++ ds) (ap (map (λ f. described (field_of f))) (take_all c.loop-field.field-index c.args.fields.now c.loop-field-test.false) ∙ map_both described field_of c.args.fields.now)
