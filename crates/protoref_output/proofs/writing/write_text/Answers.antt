use Rattle.std.proofs.Common.{◌≡◌, ℕ, List, ◌++◌, take, drop, sym, ap, ◌∙◌, append_assoc, take-append-drop, rules}
use Rattle.std.proofs.KnownBytes.{Appends-trans}
use Rattle.protoref_output.proofs.writing.write_text.Goals as goal

pub loop-rest-preserved : goal.loop-rest-preserved
loop-rest-preserved g c =
    let rest : List ℕ = c.loop-rest.rest.now in
    let count : ℕ = c.in-Ok.count in
    let held = c.loop-rest.invariant in
    let after : c.split_at.result.1.now ≡ drop count rest = search rules in
    let whole : c.args.text.now ≡ (held.0 ++ take count rest) ++ c.split_at.result.1.now = held.1 ∙ ap (λ l. held.0 ++ l) (sym (take-append-drop count rest)) ∙ sym (append_assoc held.0 (take count rest) (drop count rest)) ∙ ap (λ l. (held.0 ++ take count rest) ++ l) (sym after) in
    (held.0 ++ take count rest, whole, Appends-trans _ _ _ held.0 (take count rest) held.2 c.in-Ok.ensures.bytes)
