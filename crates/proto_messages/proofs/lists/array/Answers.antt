use Rattle.std.proofs.Common.{ap, ◌∙◌}
use Rattle.serde_json.proofs.Views.{view-Array}
use Rattle.serde_json.specs.Data.{array}
use Rattle.serde_json.specs.View.{items_of}
use Rattle.proto_messages.proofs.Items.{value_more, values_all}
use Rattle.proto_messages.proofs.lists.array.Goals as goal

pub loop-item-preserved : goal.loop-item-preserved
loop-item-preserved g c =
    value_more g.T.ToJson.json c.args.items.now c.loop-item.item-index c.item-item.result c.loop-item.values.items _ c.in_ok-value.value c.loop-item-test.true c.item-item.is
    c.in_ok-push.ensures.items c.in_ok-value.ensures c.loop-item.invariant

pub returns : goal.returns
returns g c = view-Array c.loop-item.values ∙ ap (λ ds. array (items_of ds)) (values_all g.T.ToJson.json c.args.items.now c.loop-item.item-index c.loop-item.values.items c.loop-item-test.false c.loop-item.invariant)
