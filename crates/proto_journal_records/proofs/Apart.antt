-- No text is both as before a change and as after it.
use Rattle.std.proofs.Common.{arith, ◌≡◌, ℕ, ◌+◌, ◌-◌, List, [], ◌∷◌, ◌++◌, length, sym, ◌∙◌, subst}
use Rattle.proto_base.proofs.Common.{AllByRecursion, All-from_recursion, recursion_from_All}
use Rattle.proto_text.proofs.Common.{Edit, Puts, inverse_from, cut}
use Rattle.proto_journal_records.specs.RecoveryLaws.{NoTextIsBoth}

-- where old and new texts are as long as one another, and both stand at their places, they are the same
same_texts : (at : ℕ) (text new back : List ℕ) (es : List Edit) → AllByRecursion (λ e. length e.old ≡ length e.new) es
    → Puts at text es new → Puts at text (inverse_from at at es) back → AllByRecursion (λ e. e.old ≡ e.new) es
same_texts at text new back [] even p q = tt
same_texts at text new back (e ∷ es) even p q =
    let kept : List ℕ = p.0 in
    let rest : List ℕ = p.1 in
    let here : length kept ≡ length q.0 = omega (arith, p.3.1, q.3.1) in
    let behind = cut kept (e.old ++ rest) q.0 (e.new ++ q.1) (sym p.3.0 ∙ q.3.0) here in
    let same = cut e.old rest e.new q.1 behind.1 even.0 in
    let next : (at + (e.at - at)) + length e.new ≡ e.at + length e.old = omega (arith, p.3.1, even.0) in
    let turned : Puts (e.at + length e.old) q.1 (inverse_from (e.at + length e.old) (e.at + length e.old) es) q.2 =
    subst (λ (n : ℕ). Puts n q.1 (inverse_from n (e.at + length e.old) es) q.2) next q.5 in
    (same.0, same_texts (e.at + length e.old) rest p.2 q.2 es even.1 p.5 (subst (λ (t : List ℕ). Puts (e.at + length e.old) t (inverse_from (e.at + length e.old) (e.at + length e.old) es) q.2) (sym same.1) turned))

pub no_text_is_both : NoTextIsBoth
no_text_is_both c text is before after =
    let told = is.measured.told_apart (sym after.len ∙ before.len) in
    told.differs (All-from_recursion (λ (e : Edit). e.old ≡ e.new) c.splices
    (same_texts 0 text before.new after.new c.splices (recursion_from_All (λ (e : Edit). length e.old ≡ length e.new) c.splices told.same_lengths) before.puts after.puts))
