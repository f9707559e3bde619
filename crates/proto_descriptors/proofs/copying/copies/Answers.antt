use Rattle.std.proofs.Common.{[], ◌∷◌, ◌++◌, map, take, sym, ◌∙◌, ap, take_all}
use Rattle.proto_base.proofs.Common.{map-append, map_more}
use Rattle.proto_descriptors.proofs.copying.copies.Goals as goal

pub loop-value-init : goal.loop-value-init
loop-value-init g c = ap (map g.T.HasCopy.view) c.in_ok-copy.ensures.items

pub loop-value-preserved : goal.loop-value-preserved
loop-value-preserved g c =
    ap (map g.T.HasCopy.view) c.in_ok-push.ensures.items
    ∙ map-append g.T.HasCopy.view c.loop-value.copy.items (c.in_ok-own.own ∷ [])
    ∙ ap (λ z. z ++ g.T.HasCopy.view c.in_ok-own.own ∷ []) c.loop-value.invariant
    ∙ ap (λ z. map g.T.HasCopy.view (take c.loop-value.value-index c.args.values.now) ++ z ∷ []) (c.in_ok-own.ensures ∙ ap g.T.HasCopy.view c.value-item.is)
    ∙ sym (map_more g.T.HasCopy.view c.args.values.now c.loop-value.value-index c.value-item.result c.loop-value-test.true)

pub returns : goal.returns
returns g c = c.loop-value.invariant ∙ ap (map g.T.HasCopy.view) (take_all c.loop-value.value-index c.args.values.now c.loop-value-test.false)
