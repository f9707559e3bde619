use Rattle.std.proofs.Common.{ℕ, List, [], ◌∷◌, ◌++◌, take, map, ap, sym, ◌∙◌, string_bytes}
use Rattle.proto_base.proofs.Common.{map_more, map_push}
use Rattle.proto_journal.proofs.writing.paths_in.Goals as goal

pub loop-change-preserved : goal.loop-change-preserved
loop-change-preserved c =
    let i = c.loop-change.change-index in
    let changes = c.args.changes.now in
    ap (map (λ p. p.now)) c.in_ok-push.ensures.items ∙ map_push (λ p. p.now) c.loop-change.paths.items c.as_str.result
    ∙ ap (λ (ys : List (List ℕ)). ys ++ c.as_str.result.now ∷ []) c.loop-change.invariant
    ∙ ap (λ (v : List ℕ). map (λ x. string_bytes x.path) (take i changes) ++ v ∷ []) (c.as_str.ensures.value ∙ ap (λ x. string_bytes x.path) c.change-item.is)
    ∙ sym (map_more (λ x. string_bytes x.path) changes i c.change-item.result c.loop-change-test.true)
