-- Sums over splices that are in order.
use Rattle.std.proofs.Common.{◌≡◌, ℕ, ◌+◌, ◌-◌, ◌<◌, ◌≤◌, List, [], ◌∷◌, ◌++◌, length, get_or, take, refl, sym, ap, ◌∙◌, arith, sum_by, string_bytes}
use Rattle.proto_base.proofs.Common.{take_more, sum_by-cons, sum_by_push, sum_by-take-le, text_limit}
use Rattle.proto_text.specs.declared.splice.Splice.{Splice}
use Rattle.proto_text.proofs.Common.{Edit, AreShort, edit_of, edits}

abbrev pub old_of : Splice → ℕ
old_of s = length (string_bytes s.old)

abbrev pub new_of : Splice → ℕ
new_of s = length (string_bytes s.new)

old_fits : (to from : ℕ) (ss : List Splice) → from ≤ text_limit → AreShort to from (edits ss) → from + sum_by old_of ss ≤ text_limit
old_fits to from [] le h = omega (arith, le)
old_fits to from (s ∷ ss) le h =
    let more = old_fits ((to + (s.at - from)) + length (string_bytes s.new)) (s.at + length (string_bytes s.old)) ss h.1 h.3 in
    omega (arith, h.0, more, sum_by-cons old_of s ss)

new_fits : (to from : ℕ) (ss : List Splice) → to ≤ text_limit → AreShort to from (edits ss) → to + sum_by new_of ss ≤ text_limit
new_fits to from [] le h = omega (arith, le)
new_fits to from (s ∷ ss) le h =
    let more = new_fits ((to + (s.at - from)) + length (string_bytes s.new)) (s.at + length (string_bytes s.old)) ss h.2 h.3 in
    omega (arith, h.0, more, sum_by-cons new_of s ss)

pub old_sum_fits : (ss : List Splice) → AreShort 0 0 (edits ss) → sum_by old_of ss ≤ text_limit
old_sum_fits ss h = let r = old_fits 0 0 ss (omega arith) h in omega (arith, r)

pub new_sum_fits : (ss : List Splice) → AreShort 0 0 (edits ss) → sum_by new_of ss ≤ text_limit
new_sum_fits ss h = let r = new_fits 0 0 ss (omega arith) h in omega (arith, r)

-- one summand more
pub sum_more : (f : Splice → ℕ) (ss : List Splice) (i : ℕ) (s : Splice) → i < length ss → s ≡ get_or ss i s → sum_by f (take (i + 1) ss) ≡ sum_by f (take i ss) + f s
sum_more f ss i s lt is = ap (sum_by f) (take_more ss i s lt ∙ ap (λ (x : Splice). take i ss ++ x ∷ []) (sym is)) ∙ sum_by_push f (take i ss) s

pub sum_below : (f : Splice → ℕ) (ss : List Splice) (i : ℕ) (s : Splice) → i < length ss → s ≡ get_or ss i s → sum_by f (take i ss) + f s ≤ sum_by f ss
sum_below f ss i s lt is = omega (arith, sum_more f ss i s lt is, sum_by-take-le f ss (i + 1))

-- ---- the same of edits

pub sum_edits : (f : Edit → ℕ) (ss : List Splice) → sum_by f (edits ss) ≡ sum_by (λ s. f (edit_of s)) ss
sum_edits f [] = refl
sum_edits f (s ∷ ss) = sum_by-cons f (edit_of s) (edits ss) ∙ ap (λ (n : ℕ). f (edit_of s) + n) (sum_edits f ss) ∙ sym (sum_by-cons (λ s. f (edit_of s)) s ss)
