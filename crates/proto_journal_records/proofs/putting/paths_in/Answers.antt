use Rattle.std.proofs.Common.{ℕ, List, [], ◌∷◌, ◌++◌, take, map, ap, sym, ◌∙◌, string_bytes}
use Rattle.proto_base.proofs.Common.{map_more, map_push}
use Rattle.proto_journal_records.proofs.putting.paths_in.Goals as goal

pub loop-file-preserved : goal.loop-file-preserved
loop-file-preserved c =
    let i = c.loop-file.file-index in
    let files = c.args.files.now in
    ap (map (λ p. p.now)) c.in_ok-push.ensures.items ∙ map_push (λ p. p.now) c.loop-file.paths.items c.as_str.result
    ∙ ap (λ (ys : List (List ℕ)). ys ++ c.as_str.result.now ∷ []) c.loop-file.invariant
    ∙ ap (λ (v : List ℕ). map (λ f. string_bytes f.0) (take i files) ++ v ∷ []) (c.as_str.ensures.value ∙ ap (λ f. string_bytes f.0) c.file-item.is)
    ∙ sym (map_more (λ f. string_bytes f.0) files i c.file-item.result c.loop-file-test.true)
