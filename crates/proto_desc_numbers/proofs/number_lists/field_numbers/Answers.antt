use Rattle.std.proofs.Common.{[], ◌∷◌, ◌++◌, ap, ◌∙◌}
use Rattle.proto_ast.specs.Views.{field_of}
use Rattle.proto_desc_numbers.specs.Common.{NumberAt, number_of_field}
use Rattle.proto_base.proofs.Turns.{listed_more, listed_all}
use Rattle.proto_desc_numbers.proofs.number_lists.field_numbers.Goals as goal

pub loop-field-preserved : goal.loop-field-preserved
loop-field-preserved c =
    listed_more (number_of_field c.args.scene.now) field_of c.args.fields.now c.loop-field.field-index c.field-item.result c.field-item.result c.loop-field.numbers.items _ c.loop-field-test.true c.field-item.is
    (c.in_ok-push.ensures.items ∙ ap (λ (one : NumberAt). c.loop-field.numbers.items ++ one ∷ []) c.number_of_field.ensures)
    c.loop-field.invariant

pub returns : goal.returns
returns c = listed_all (number_of_field c.args.scene.now) field_of c.args.fields.now c.loop-field.field-index c.loop-field.numbers.items c.loop-field-test.false c.loop-field.invariant
