-- Public lemmas: a text before and behind its last such character (for the crates above).
use Rattle.std.proofs.Common.{◌≡◌, ℕ, zero, suc, ◌+◌, ◌-◌, ◌≤◌, ◌<◌, eqb, List, ◌∷◌, ◌++◌, length, get_or, take, drop, Some, None, MatchOption, Option, option_map, refl, sym, ap, ◌∙◌, ⊎_elim, arith, Bor, eq-eqb, ne_eqb, eqb-true, length-drop, get_or-drop, take-append-drop}
use Rattle.std.specs.Str.Pattern.{RFindsChar}
use Rattle.proto_base.proofs.Common.{rfind_below, rsplit_once, none-some, same_Some, drop_more, NoCharPasses-char, cases_eq, cond_both, cond-true, cond-false, len_utf8_ascii}

below-None : (c : ℕ) (text : List ℕ) (n : ℕ) → ((i : ℕ) → i < n → get_or text i 0 ≡ c → ⊥) → rfind_below c text n ≡ None
below-None c text zero h = refl
below-None c text (suc n) h = cond-false _ _ _ (ne_eqb _ c (h n (omega arith))) ∙ below-None c text n (λ i l. h i (omega arith))

below-Some : (c : ℕ) (text : List ℕ) (k n : ℕ) → k < n → get_or text k 0 ≡ c → ((i : ℕ) → k < i → i < n → get_or text i 0 ≡ c → ⊥) → rfind_below c text n ≡ Some k
below-Some c text k zero l at h = absurd (omega arith)
below-Some c text k (suc n) l at h =
    ⊎_elim
    (λ e. cond-true _ _ _ (eq-eqb _ c (ap (λ j. get_or text j 0) (sym e) ∙ at)) ∙ ap (λ j. Some j) (sym e))
    (λ other. cond-false _ _ _ (ne_eqb _ c (h n (omega arith) (omega arith))) ∙ below-Some c text k n (omega arith) at (λ i a b. h i a (omega arith)))
    (cases_eq k n)

-- r, if it is there, is an index of c below n
abbrev Found : ℕ → List ℕ → ℕ → Option ℕ → Type 0
Found c text n r = MatchOption r (Unit {0}) (λ k. (k < n) × (get_or text k 0 ≡ c))

wider : (c : ℕ) (text : List ℕ) (n : ℕ) (r : Option ℕ) → Found c text n r → Found c text (suc n) r
wider c text n None h = tt
wider c text n (Some k) h = (omega arith, h.1)

found : (c : ℕ) (text : List ℕ) (n : ℕ) → Found c text n (rfind_below c text n)
found c text zero = tt
found c text (suc n) = cond_both (eqb (get_or text n 0) c) (Some n) (rfind_below c text n) (Found c text (suc n)) (λ e. (omega arith, eqb-true _ c e)) (λ _. wider c text n _ (found c text n))

abbrev parts_at : List ℕ → ℕ → List ℕ × List ℕ
parts_at text i = (take i text, drop (i + 1) text)

-- the parts with the character between them are the text
pub split_whole : (c : ℕ) (text : List ℕ) (p : List ℕ × List ℕ) → rsplit_once c text ≡ Some p → text ≡ p.0 ++ c ∷ p.1
unfolding rsplit_once
split_whole c text p e = go (rfind_below c text (length text)) (found c text (length text)) e
  where
    go : (r : Option ℕ) → Found c text (length text) r → option_map (parts_at text) r ≡ Some p → text ≡ p.0 ++ c ∷ p.1
    go None f h = absurd (none-some p h)
    go (Some i) f h =
        let same = same_Some (parts_at text i) p h in
        sym (take-append-drop i text) ∙ ap (λ l. take i text ++ l) (drop_more text i 0 f.0 ∙ ap (λ b. b ∷ drop (i + 1) text) f.1)
        ∙ ap (λ (q : List ℕ × List ℕ). q.0 ++ c ∷ q.1) same

-- takes the clause of `rsplit_once` at an ASCII character
pub split_once : (c : ℕ) (text : List ℕ) (r : Option (Bor (List ℕ) × Bor (List ℕ)))
    → MatchOption r (RFindsChar c text None) (λ x. (i : ℕ) × (j : ℕ) × RFindsChar c text (Some (i, j)) × (x.0.now ≡ take i text) × (x.1.now ≡ drop j text) × (i ≤ j) × (length x.0.now ≡ i) × (length x.1.now + j ≡ length text))
    → c < 128 → option_map (λ x. (x.0.now, x.1.now)) r ≡ rsplit_once c text
unfolding rsplit_once
split_once c text None h low = sym (ap (option_map (parts_at text)) (below-None c text (length text) (λ i. NoCharPasses-char c text i h low)))
split_once c text (Some x) h low =
    let i = h.0 in
    let j = h.1 in
    let next : j ≡ i + 1 = omega (arith, h.2.1.ends, len_utf8_ascii c low) in
    let later : (k : ℕ) → i < k → k < length text → get_or text k 0 ≡ c → ⊥ = λ k a l e.
    let back : j + (k - j) ≡ k = omega arith in
    NoCharPasses-char c (drop j text) (k - j) h.2.0 low (omega (arith, length-drop j text)) (get_or-drop j text (k - j) 0 ∙ ap (λ n. get_or text n 0) back ∙ e) in
    let at = below-Some c text i (length text) (omega (arith, h.7)) (h.2.1.byte low) later in
    let second = h.4 ∙ ap (λ n. drop n text) next in
    (λ t. Some (h.3 t, second t)) ∙ sym (ap (option_map (parts_at text)) at)
