use Rattle.std.proofs.Common.{sym, ◌∙◌, arith}
use Rattle.proto_base.proofs.Turns.{none_passed, passed_over, stops_here}
use Rattle.proto_ast.specs.Scenes.{text}
use Rattle.proto_ast.specs.Views.{option_of}
use Rattle.proto_names_at.specs.Defaults.{is_default}
use Rattle.proto_names_at.proofs.fields.one_is_default.Goals as goal

pub loop-option-preserved : goal.loop-option-preserved
loop-option-preserved c =
    c.loop-option.invariant
    ∙ passed_over (is_default (text c.args.scene.now) c.args.token) option_of c.args.options.now c.loop-option.option-index c.option-item.result c.option-item.result c.loop-option-test.true c.option-item.is (sym c.is_default.ensures ∙ c.if-is_default.false)

pub returns-then-is_default : goal.returns-then-is_default
returns-then-is_default c =
    sym (c.loop-option.invariant
    ∙ stops_here (is_default (text c.args.scene.now) c.args.token) option_of c.args.options.now c.loop-option.option-index c.option-item.result c.option-item.result c.loop-option-test.true c.option-item.is (sym c.is_default.ensures ∙ c.if-is_default.true))

pub returns : goal.returns
returns c = sym (c.loop-option.invariant ∙ none_passed (is_default (text c.args.scene.now) c.args.token) option_of c.args.options.now c.loop-option.option-index (omega arith))
