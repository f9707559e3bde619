use Rattle.std.proofs.Common.{sym, ◌∙◌, arith}
use Rattle.serde_json.specs.View.{view}
use Rattle.proto_base.proofs.Turns.{none_passed, passed_over, stops_here}
use Rattle.proto_messages.specs.Reading.{names_utf8}
use Rattle.proto_messages.proofs.requests.has_utf8.Goals as goal

pub loop-name-preserved : goal.loop-name-preserved
loop-name-preserved c =
    c.loop-name.invariant ∙ passed_over names_utf8 view c.args.names.now c.loop-name.name-index c.name-item.result _ c.loop-name-test.true c.name-item.is (sym c.names_utf8.ensures ∙ c.if-names_utf8.false)

pub returns-then-names_utf8 : goal.returns-then-names_utf8
returns-then-names_utf8 c =
    sym (c.loop-name.invariant ∙ stops_here names_utf8 view c.args.names.now c.loop-name.name-index c.name-item.result _ c.loop-name-test.true c.name-item.is (sym c.names_utf8.ensures ∙ c.if-names_utf8.true))

pub returns : goal.returns
returns c = sym (c.loop-name.invariant ∙ none_passed names_utf8 view c.args.names.now c.loop-name.name-index (omega arith))
