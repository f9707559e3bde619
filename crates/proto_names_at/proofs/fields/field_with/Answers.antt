use Rattle.std.proofs.Common.{sym, ◌∙◌, arith}
use Rattle.proto_ast.specs.Scenes.{text}
use Rattle.proto_ast.specs.Views.{field_of}
use Rattle.proto_names_at.specs.Defaults.{has_default}
use Rattle.proto_names_at.proofs.DefaultFields.{find_here, find_none, find_on}
use Rattle.proto_names_at.proofs.fields.field_with.Goals as goal

pub loop-field-preserved : goal.loop-field-preserved
loop-field-preserved c =
    c.loop-field.invariant
    ∙ find_on (has_default (text c.args.scene.now) c.args.token) field_of c.args.fields.now c.loop-field.field-index c.field-item.result c.field-item.result c.loop-field-test.true c.field-item.is (sym c.in_ok-has_default.ensures ∙ c.if-branch.false)

pub returns-then-branch : goal.returns-then-branch
returns-then-branch c =
    sym (c.loop-field.invariant
    ∙ find_here (has_default (text c.args.scene.now) c.args.token) field_of c.args.fields.now c.loop-field.field-index c.field-item.result c.field-item.result c.loop-field-test.true c.field-item.is (sym c.in_ok-has_default.ensures ∙ c.if-branch.true))

pub returns : goal.returns
returns c = sym (c.loop-field.invariant ∙ find_none (has_default (text c.args.scene.now) c.args.token) field_of c.args.fields.now c.loop-field.field-index (omega arith))
