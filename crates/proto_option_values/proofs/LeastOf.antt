-- What the least of tokens is the least of.
use Rattle.std.proofs.Common.{◌≡◌, ◌⊎◌, ℕ, ◌<◌, min, Bool, true, List, [], ◌∷◌, Option, Some, None, refl, sym, ap, subst, ◌∙◌, inl, inr, arith, Contains}
use Rattle.proto_base.proofs.Common.{both_ways, cases_Bool, cases_lt, cond-false, cond-true, contains_cases, contains_head, contains_later}
use Rattle.proto_option_values.specs.Words.{if_passes, least, least_word, lesser}

-- none holds; or this does, and none that is less
abbrev pub IsLeast : (ℕ → Type 0) → Option ℕ → Type 0
IsLeast Holds None = (t : ℕ) → Holds t → ⊥
IsLeast Holds (Some t) = Holds t × ((s : ℕ) → s < t → Holds s → ⊥)

pub least_same : (P Q : ℕ → Type 0) → ((t : ℕ) → P t → Q t) → ((t : ℕ) → Q t → P t) → (o : Option ℕ) → IsLeast P o → IsLeast Q o
least_same P Q to from None h = λ t q. h t (from t q)
least_same P Q to from (Some t) h = (to t h.0, λ s l q. h.1 s l (from s q))

module _ (P Q : ℕ → Type 0) where
  of_either : (a b c : ℕ) → c ≡ min a b → IsLeast P (Some a) → IsLeast Q (Some b) → IsLeast (λ t. P t ⊎ Q t) (Some c)
  of_either a b c e p q = elim (cases_lt b a) [
    | inl lt ↦
        let same : b ≡ c = omega (arith, e, lt) in (
          inr (subst Q same q.0),
          λ s l h. elim h [ inl x ↦ p.1 s (omega (arith, l, same, lt)) x | inr y ↦ q.1 s (omega (arith, l, same)) y ],
        )
    | inr le ↦
        let same : a ≡ c = omega (arith, e, le) in (
          inl (subst P same p.0),
          λ s l h. elim h [ inl x ↦ p.1 s (omega (arith, l, same)) x | inr y ↦ q.1 s (omega (arith, l, same, le)) y ],
        )
  ]

  pub least_either : (a b : Option ℕ) → IsLeast P a → IsLeast Q b → IsLeast (λ t. P t ⊎ Q t) (lesser a b)
  least_either None None p q = λ t h. elim h [ inl x ↦ p t x | inr y ↦ q t y ]
  least_either None (Some b) p q = (inr q.0, λ s l h. elim h [ inl x ↦ p s x | inr y ↦ q.1 s l y ])
  least_either (Some a) None p q = (inl p.0, λ s l h. elim h [ inl x ↦ p.1 s l x | inr y ↦ q s y ])
  least_either (Some a) (Some b) p q = of_either a b (min a b) refl p q

-- of what one of the elements has
pub least_of : {X : Type 0} (token : X → Option ℕ) (P : X → ℕ → Type 0) (xs : List X) → ((x : X) → Contains xs x → IsLeast (P x) (token x)) → IsLeast (λ t. (x : X) × Contains xs x × P x t) (least token xs)
least_of token P [] each = λ t h. (let c = h.1 in omega (arith, c.1))
least_of {X} token P (x ∷ xs) each =
    least_same (λ t. P x t ⊎ ((y : X) × Contains xs y × P y t)) (λ t. (y : X) × Contains (x ∷ xs) y × P y t)
    (λ t h. elim h [ inl p ↦ (x, contains_head x xs, p) | inr q ↦ (q.0, contains_later x q.0 xs q.1, q.2) ])
    (λ t h. elim (contains_cases x h.0 xs h.1) [ inl e ↦ inl (subst (λ z. P z t) (sym e) h.2) | inr c ↦ inr (h.0, c, h.2) ])
    (lesser (token x) (least token xs))
    (least_either (P x) (λ t. (y : X) × Contains xs y × P y t) (token x) (least token xs) (each x (contains_head x xs)) (least_of token P xs (λ y c. each y (contains_later x y xs c))))

module _ (test : ℕ → Bool) where
  passes_is : (x : ℕ) → IsLeast (λ t. (t ≡ x) × (test t ≡ true)) (if_passes test x)
  passes_is x = elim (cases_Bool (test x)) [
    | inl is ↦ subst (IsLeast (λ t. (t ≡ x) × (test t ≡ true))) (sym (cond-true (test x) (Some x) None is)) ((refl, is), λ s l h. (let e = h.0 in omega (arith, l, e)))
    | inr not_so ↦ subst (IsLeast (λ t. (t ≡ x) × (test t ≡ true))) (sym (cond-false (test x) (Some x) None not_so)) (λ t h. both_ways (test x) not_so (ap test (sym h.0) ∙ h.1))
  ]

  -- of the tokens that pass
  pub least_word_is : (ts : List ℕ) → IsLeast (λ t. Contains ts t × (test t ≡ true)) (least_word test ts)
  least_word_is ts =
      least_same (λ t. (x : ℕ) × Contains ts x × ((t ≡ x) × (test t ≡ true))) (λ t. Contains ts t × (test t ≡ true))
      (λ t h. (subst (Contains ts) (sym h.2.0) h.1, h.2.1))
      (λ t h. (t, h.0, (refl, h.1)))
      (least_word test ts)
      (least_of (if_passes test) (λ x t. (t ≡ x) × (test t ≡ true)) ts (λ x c. passes_is x))
