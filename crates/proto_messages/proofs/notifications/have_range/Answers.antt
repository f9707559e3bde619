use Rattle.std.proofs.Common.{sym, ◌∙◌, arith}
use Rattle.serde_json.specs.View.{view}
use Rattle.proto_base.proofs.Turns.{none_passed, passed_over, stops_here}
use Rattle.proto_messages.specs.Reading.{has_range}
use Rattle.proto_messages.proofs.notifications.have_range.Goals as goal

pub loop-change-preserved : goal.loop-change-preserved
loop-change-preserved c =
    c.loop-change.invariant ∙ passed_over has_range view c.args.changes.now c.loop-change.change-index c.change-item.result _ c.loop-change-test.true c.change-item.is (sym c.has_range.ensures ∙ c.if-has_range.false)

pub returns-then-has_range : goal.returns-then-has_range
returns-then-has_range c =
    sym (c.loop-change.invariant ∙ stops_here has_range view c.args.changes.now c.loop-change.change-index c.change-item.result _ c.loop-change-test.true c.change-item.is (sym c.has_range.ensures ∙ c.if-has_range.true))

pub returns : goal.returns
returns c = sym (c.loop-change.invariant ∙ none_passed has_range view c.args.changes.now c.loop-change.change-index (omega arith))
