use Rattle.std.proofs.Common.{sym, ◌∙◌, arith}
use Rattle.proto_ast.specs.Views.{field_of}
use Rattle.proto_edit_rename.specs.Members.{is_other}
use Rattle.proto_base.proofs.Turns.{none_passed, passed_over, stops_here}
use Rattle.proto_edit_rename.proofs.json_names.has_other.Goals as goal

pub loop-field-preserved : goal.loop-field-preserved
loop-field-preserved c = c.loop-field.invariant ∙ passed_over (is_other c.args.scene.now c.args.token c.args.name.now) field_of c.args.fields.now c.loop-field.field-index c.field-item.result _ c.loop-field-test.true c.field-item.is (sym c.in_ok-is_other.ensures ∙ c.if-branch.false)

pub returns-then-branch : goal.returns-then-branch
returns-then-branch c = sym (c.loop-field.invariant ∙ stops_here (is_other c.args.scene.now c.args.token c.args.name.now) field_of c.args.fields.now c.loop-field.field-index c.field-item.result _ c.loop-field-test.true c.field-item.is (sym c.in_ok-is_other.ensures ∙ c.if-branch.true))

pub returns : goal.returns
returns c = sym (c.loop-field.invariant ∙ none_passed (is_other c.args.scene.now c.args.token c.args.name.now) field_of c.args.fields.now c.loop-field.field-index (omega arith))
