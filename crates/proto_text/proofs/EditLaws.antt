-- Edits, one after the other (for the crates above).
use Rattle.std.proofs.Common.{◌≡◌, ℕ, ◌+◌, ◌-◌, ◌<◌, ◌≤◌, List, [], ◌∷◌, ◌++◌, length, get_or, take, drop, refl, sym, ap, subst, ◌∙◌, arith, append_assoc, take_at, drop_at, string_bytes}
use Rattle.std.proofs.lemmas.List.{drop_all, drop_more}
use Rattle.proto_text.specs.declared.splice.Splice.{Splice}
use Rattle.proto_text.specs.Common.{edit_of, edits, Edit, IsCut, Puts, AreShort, inverse_from, InverseLeadsBack}

leads_back : (to from : ℕ) (text new : List ℕ) (es : List Edit) → Puts from text es new → Puts to new (inverse_from to from es) text
leads_back to from text new [] p = sym p
leads_back to from text new (e ∷ es) p = (p.0, p.2, p.1, (p.4, omega (arith, p.3.1)), p.3.0, leads_back ((to + (e.at - from)) + length e.new) (e.at + length e.old) p.1 p.2 es p.5)

pub inverse_leads_back : InverseLeadsBack
inverse_leads_back text new es p = leads_back 0 0 text new es p

-- ---- the loop over the edits

-- the text before rest is edited, and made front
pub record PutsUpTo (text : List ℕ) (all : List Edit) (from : ℕ) (rest front : List ℕ) (es : List Edit) : Type 0 where
  pub forth : (more : List ℕ) → Puts from rest es more → Puts 0 text all (front ++ more)
  pub back : (new : List ℕ) → Puts 0 text all new → (more : List ℕ) × (new ≡ front ++ more) × Puts from rest es more

-- the two parts of a text are determined by their lengths
pub cut : (a x b y : List ℕ) → a ++ x ≡ b ++ y → length a ≡ length b → (a ≡ b) × (x ≡ y)
cut a x b y e len = (
  sym (take_at a x (length b) len) ∙ ap (take (length b)) e ∙ take_at b y (length b) refl,
  sym (drop_at a x (length b) len) ∙ ap (drop (length b)) e ∙ drop_at b y (length b) refl,
)

pub puts_more : (text : List ℕ) (all : List Edit) (from : ℕ) (rest front : List ℕ) (e : Edit) (es : List Edit) (kept after : List ℕ) → PutsUpTo text all from rest front (e ∷ es)
    → IsCut rest from e.at e.old kept after → PutsUpTo text all (e.at + length e.old) after (front ++ (kept ++ e.new)) es
puts_more text all from rest front e es kept after so_far is = record { forth = forth; back = back }
  where
    regroup : (more : List ℕ) → (front ++ (kept ++ e.new)) ++ more ≡ front ++ (kept ++ (e.new ++ more))
    regroup more = append_assoc front (kept ++ e.new) more ∙ ap (λ (t : List ℕ). front ++ t) (append_assoc kept e.new more)

    forth : (more : List ℕ) → Puts (e.at + length e.old) after es more → Puts 0 text all ((front ++ (kept ++ e.new)) ++ more)
    forth more p = subst (Puts 0 text all) (sym (regroup more)) (so_far.forth (kept ++ (e.new ++ more)) (kept, after, more, is, refl, p))

    back : (new : List ℕ) → Puts 0 text all new → (more : List ℕ) × (new ≡ (front ++ (kept ++ e.new)) ++ more) × Puts (e.at + length e.old) after es more
    back new p =
        let b = so_far.back new p in
        let q = b.2 in
        let same = cut q.0 (e.old ++ q.1) kept (e.old ++ after) (sym q.3.0 ∙ is.0) (omega (arith, is.1, q.3.1)) in
        let rest-is = cut e.old q.1 e.old after same.1 refl in
        (q.2, b.1 ∙ ap (λ (t : List ℕ). front ++ t) (q.4 ∙ ap (λ (t : List ℕ). t ++ (e.new ++ q.2)) same.0) ∙ sym (regroup q.2), subst (λ (t : List ℕ). Puts (e.at + length e.old) t es q.2) rest-is.1 q.5)

pub puts_stops : (text : List ℕ) (all : List Edit) (from : ℕ) (rest front : List ℕ) (e : Edit) (es : List Edit) → PutsUpTo text all from rest front (e ∷ es)
    → ((kept after : List ℕ) → IsCut rest from e.at e.old kept after → ⊥) → (new : List ℕ) → Puts 0 text all new → ⊥
puts_stops text all from rest front e es so_far none new p = let b = so_far.back new p in none b.2.0 b.2.1 b.2.3

pub puts_all : (text : List ℕ) (all : List Edit) (from : ℕ) (rest front : List ℕ) (es : List Edit) → PutsUpTo text all from rest front es → es ≡ [] → Puts 0 text all (front ++ rest)
puts_all text all from rest front es so_far none = so_far.forth rest (subst (λ (es : List Edit). Puts from rest es rest) (sym none) refl)

pub cut_old : (rest : List ℕ) (from at : ℕ) (old kept after : List ℕ) → IsCut rest from at old kept after → take (length old) (drop (at - from) rest) ≡ old
cut_old rest from at old kept after is = ap (λ (t : List ℕ). take (length old) (drop (at - from) t)) is.0 ∙ ap (take (length old)) (drop_at kept (old ++ after) (at - from) (omega (arith, is.1))) ∙ take_at old after (length old) refl

pub drop_item : (xs : List Splice) (i : ℕ) (x : Splice) → i < length xs → x ≡ get_or xs i x → edits (drop i xs) ≡ edit_of x ∷ edits (drop (i + 1) xs)
drop_item xs i x lt is = ap edits (drop_more xs i x lt ∙ ap (λ (y : Splice). y ∷ drop (i + 1) xs) (sym is))

-- a turn of the loop
pub put_step : (text : List ℕ) (xs : List Splice) (i from : ℕ) (rest front kept after made : List ℕ) (x : Splice) → PutsUpTo text (edits xs) from rest front (edits (drop i xs)) → i < length xs → x ≡ get_or xs i x
    → IsCut rest from x.at (string_bytes x.old) kept after → made ≡ (front ++ kept) ++ string_bytes x.new → PutsUpTo text (edits xs) (x.at + length (string_bytes x.old)) after made (edits (drop (i + 1) xs))
put_step text xs i from rest front kept after made x so_far lt item is made-is =
    let here = subst (PutsUpTo text (edits xs) from rest front) (drop_item xs i x lt item) so_far in
    let more = puts_more text (edits xs) from rest front (edit_of x) (edits (drop (i + 1) xs)) kept after here is in
    rw (made-is, append_assoc front kept (string_bytes x.new)) more

pub put_stops : (text : List ℕ) (xs : List Splice) (i from : ℕ) (rest front : List ℕ) (x : Splice) → PutsUpTo text (edits xs) from rest front (edits (drop i xs)) → i < length xs → x ≡ get_or xs i x
    → ((kept after : List ℕ) → IsCut rest from x.at (string_bytes x.old) kept after → ⊥) → (new : List ℕ) → Puts 0 text (edits xs) new → ⊥
put_stops text xs i from rest front x so_far lt item none =
    puts_stops text (edits xs) from rest front (edit_of x) (edits (drop (i + 1) xs)) (subst (PutsUpTo text (edits xs) from rest front) (drop_item xs i x lt item) so_far) none

pub put_ends : (text : List ℕ) (xs : List Splice) (i from : ℕ) (rest front made : List ℕ) → PutsUpTo text (edits xs) from rest front (edits (drop i xs)) → length xs ≤ i → made ≡ front ++ rest → Puts 0 text (edits xs) made
put_ends text xs i from rest front made so_far end is = subst (Puts 0 text (edits xs)) (sym is) (puts_all text (edits xs) from rest front (edits (drop i xs)) so_far (ap edits (drop_all i xs end)))

-- ---- the loop that turns the edits round

edits_push : (xs : List Splice) (y : Splice) → edits (xs ++ y ∷ []) ≡ edits xs ++ edit_of y ∷ []
edits_push [] y = refl
edits_push (x ∷ xs) y = ap (λ (es : List Edit). edit_of x ∷ es) (edits_push xs y)

-- ---- the loop that tests the limits

-- what is left decides
pub record TestsUpTo (all : List Edit) (to from : ℕ) (es : List Edit) : Type 0 where
  pub forth : AreShort to from es → AreShort 0 0 all
  pub back : AreShort 0 0 all → AreShort to from es

pub inverse_short : (to from : ℕ) (es : List Edit) → AreShort to from es → AreShort from to (inverse_from to from es)
inverse_short to from [] h = tt
inverse_short to from (e ∷ es) h =
    let at : from + ((to + (e.at - from)) - to) ≡ e.at = omega (arith, h.0) in
    (omega arith, h.2, omega (arith, h.1), rw at (inverse_short ((to + (e.at - from)) + length e.new) (e.at + length e.old) es h.3))
