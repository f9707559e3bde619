use Rattle.std.proofs.Common.{[], ◌∷◌, ◌++◌, map, take, sym, ◌∙◌, ap, take_all}
use Rattle.proto_base.proofs.Common.{map-append, map_more}
use Rattle.proto_names.proofs.copying.copied.Goals as goal

pub loop-list-init : goal.loop-list-init
loop-list-init g c = ap (map (λ v. v.items)) c.in_ok-copy.ensures.items

pub loop-list-preserved : goal.loop-list-preserved
loop-list-preserved g c =
    ap (map (λ v. v.items)) c.in_ok-push.ensures.items
    ∙ map-append (λ v. v.items) c.loop-list.copy.items (c.extend_from_slice.new.self ∷ [])
    ∙ ap (λ z. z ++ c.extend_from_slice.new.self.items ∷ []) c.loop-list.invariant
    ∙ ap (λ z. map (λ v. v.items) (take c.loop-list.list-index c.args.lists.now) ++ z ∷ [])
    (c.in_ok-extend_from_slice.ensures.items ∙ ap (λ z. z ++ c.deref.result.now) c.in_ok-own.ensures.items ∙ c.deref.ensures.value ∙ ap (λ v. v.items) c.list-item.is)
    ∙ sym (map_more (λ v. v.items) c.args.lists.now c.loop-list.list-index c.list-item.result c.loop-list-test.true)

pub returns : goal.returns
returns g c = c.loop-list.invariant ∙ ap (map (λ v. v.items)) (take_all c.loop-list.list-index c.args.lists.now c.loop-list-test.false)
