use Rattle.proto_ast.specs.Views.{field_of}
use Rattle.proto_ast.specs.declared.options.Element.TheVariants as element
use Rattle.proto_desc_checks.specs.FieldFlaws.{field_flaws}
use Rattle.proto_base.proofs.Turns.{seen_more, seen_all}
use Rattle.proto_desc_checks.proofs.messages.add_each_field.Goals as goal

pub loop-field-preserved : goal.loop-field-preserved
loop-field-preserved c = seen_more (field_flaws c.args.scene.now element.Field) field_of c.args.fields.now c.loop-field.field-index c.field-item.result c.field-item.result c.args.found.now.items c.loop-field.found.items _ c.loop-field-test.true c.field-item.is c.in_ok-add_field_flaws.ensures c.loop-field.invariant

pub returns : goal.returns
returns c = seen_all (field_flaws c.args.scene.now element.Field) field_of c.args.fields.now c.loop-field.field-index c.args.found.now.items c.loop-field.found.items c.loop-field-test.false c.loop-field.invariant
