use Rattle.std.proofs.Common.{◌≡◌, [], ◌∷◌, ◌++◌, map, replicate, ◌∙◌, ap, arith}
use Rattle.proto_base.proofs.Common.{map_push, replicate_more, IfOk-from_err}
use Rattle.proto_names.proofs.backlinks.empty_lists.Goals as goal

pub loop-preserved : goal.loop-preserved
loop-preserved c =
    ap (map (λ v. v.items)) c.in_ok-push.ensures.items
    ∙ map_push (λ v. v.items) c.loop.lists.items c.new.result
    ∙ ap (λ z. map (λ v. v.items) c.loop.lists.items ++ z ∷ []) c.new.ensures.items
    ∙ ap (λ zs. zs ++ [] ∷ []) c.loop.invariant
    ∙ replicate_more c.loop.counter []

pub returns : goal.returns
returns c =
    let n : c.loop.counter ≡ c.args.count = omega (arith, c.loop-test.false, c.loop.auto.counter-end) in
    c.loop.invariant ∙ ap (λ k. replicate k []) n

pub returns-in_err-push : goal.returns-in_err-push
returns-in_err-push c = IfOk-from_err c.from_residual-in_err-push.result _ c.from_residual-in_err-push.ensures.0
