use Rattle.std.proofs.Common.{[], ◌∷◌, ◌++◌, map, take, sym, ◌∙◌, ap, take_all}
use Rattle.proto_base.proofs.Common.{map-append, map_more}
use Rattle.proto_edit_statements.proofs.imports.copies.Goals as goal

pub loop-own-init : goal.loop-own-init
loop-own-init c = ap (map (λ v. v.items)) c.in_ok-copy.ensures.items

pub loop-own-preserved : goal.loop-own-preserved
loop-own-preserved c =
    ap (map (λ v. v.items)) c.in_ok-push.ensures.items
    ∙ map-append (λ v. v.items) c.loop-own.copy.items (c.in_ok-from_slice.field-0 ∷ [])
    ∙ ap (λ z. z ++ c.in_ok-from_slice.field-0.items ∷ []) c.loop-own.invariant
    ∙ ap (λ z. map (λ v. v.items) (take c.loop-own.own-index c.args.imports.now) ++ z ∷ []) (c.in_ok-from_slice.ensures.items ∙ c.deref.ensures.value ∙ ap (λ v. v.items) c.own-item.is)
    ∙ sym (map_more (λ v. v.items) c.args.imports.now c.loop-own.own-index c.own-item.result c.loop-own-test.true)

pub returns : goal.returns
returns c = c.loop-own.invariant ∙ ap (map (λ v. v.items)) (take_all c.loop-own.own-index c.args.imports.now c.loop-own-test.false)
