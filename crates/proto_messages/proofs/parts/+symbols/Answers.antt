use Rattle.std.proofs.Common.{ap, ◌∙◌}
use Rattle.serde_json.proofs.Views.{view-Array}
use Rattle.serde_json.specs.Data.{array}
use Rattle.serde_json.specs.View.{items_of}
use Rattle.proto_messages.specs.Results.{symbol_data}
use Rattle.proto_messages.proofs.Items.{value_more, values_all}
use Rattle.proto_messages.proofs.parts.+symbols.Goals as goal

pub symbols-loop-symbol-preserved : goal.symbols-loop-symbol-preserved
symbols-loop-symbol-preserved t c =
    value_more symbol_data c.args.symbols.now c.loop-symbol.symbol-index c.symbol-item.result c.loop-symbol.values.items _ c.in_ok-value.value c.loop-symbol-test.true c.symbol-item.is
    c.in_ok-push.ensures.items c.in_ok-value.ensures c.loop-symbol.invariant

pub symbols-returns : goal.symbols-returns
symbols-returns t c = view-Array c.loop-symbol.values ∙ ap (λ ds. array (items_of ds)) (values_all symbol_data c.args.symbols.now c.loop-symbol.symbol-index c.loop-symbol.values.items c.loop-symbol-test.false c.loop-symbol.invariant)
