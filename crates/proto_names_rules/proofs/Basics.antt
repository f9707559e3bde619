-- Names that are the same, and the greatest number that passes (for the crates above).
use Rattle.std.proofs.Common.{◌≡◌, ℕ, zero, suc, ◌<◌, ◌≤◌, Bool, true, false, List, Option, Some, None, refl, sym, ◌∙◌, ap, subst, inl, inr, arith}
use Rattle.proto_base.proofs.Common.{bytes_eq-Decides, slice_eq-Decides, cases_Bool, cases_eq, cases_lt, cond-true, cond-false, false_from_ne_true, both_ways, none-some, same_Some}
use Rattle.proto_names_rules.specs.Names.{same_name, greatest}

pub name_from_same : (x y : List (List ℕ)) → same_name x y ≡ true → x ≡ y
name_from_same x y h = (slice_eq-Decides bytes_eq-Decides x y (same_name x y) refl).0 h

pub same_from_name : (x y : List (List ℕ)) → x ≡ y → same_name x y ≡ true
same_from_name x y h = (slice_eq-Decides bytes_eq-Decides x y (same_name x y) refl).1 h

-- what it is to be the greatest that passes
pub record IsGreatest (t : ℕ → Bool) (bound k : ℕ) : Type 0 where
  pub within : k ≤ bound
  pub passes : t k ≡ true
  pub last : (j : ℕ) → k < j → j ≤ bound → t j ≡ false

pub greatest_is : (t : ℕ → Bool) (bound k : ℕ) → greatest t bound ≡ Some k → IsGreatest t bound k
greatest_is t zero k h = elim (cases_Bool (t 0)) [
  | inl pass ↦
      let e : 0 ≡ k = same_Some 0 k (sym (cond-true (t 0) (Some 0) None pass) ∙ h) in
      record { within = omega arith; passes = subst (λ n. t n ≡ true) e pass; last = λ j a b. absurd (omega arith) }
  | inr fail ↦ absurd (none-some k (sym (cond-false (t 0) (Some 0) None fail) ∙ h))
]
greatest_is t (suc n) k h = elim (cases_Bool (t (suc n))) [
  | inl pass ↦
      let e : suc n ≡ k = same_Some (suc n) k (sym (cond-true (t (suc n)) (Some (suc n)) (greatest t n) pass) ∙ h) in
      record { within = omega arith; passes = subst (λ i. t i ≡ true) e pass; last = λ j a b. absurd (omega arith) }
  | inr fail ↦
      let r = greatest_is t n k (sym (cond-false (t (suc n)) (Some (suc n)) (greatest t n) fail) ∙ h) in
      record { within = omega (arith, r.within); passes = r.passes; last = λ j a b. last_too t n k j fail r a b }
]
  where
    last_too : (t : ℕ → Bool) (n k j : ℕ) → t (suc n) ≡ false → IsGreatest t n k → k < j → j ≤ suc n → t j ≡ false
    last_too t n k j fail r a b = elim (cases_eq j (suc n)) [
      | inl e ↦ subst (λ i. t i ≡ false) (sym e) fail
      | inr ne ↦ r.last j a (omega arith)
    ]

pub greatest_from : (t : ℕ → Bool) (bound k : ℕ) → IsGreatest t bound k → greatest t bound ≡ Some k
greatest_from t zero k g =
    let e : k ≡ 0 = omega (arith, g.within) in
    cond-true (t 0) (Some 0) None (subst (λ n. t n ≡ true) e g.passes) ∙ ap Some (sym e)
greatest_from t (suc n) k g = elim (cases_eq k (suc n)) [
  | inl e ↦ cond-true (t (suc n)) (Some (suc n)) (greatest t n) (subst (λ i. t i ≡ true) e g.passes) ∙ ap Some (sym e)
  | inr ne ↦
      let l : k < suc n = omega (arith, g.within) in
      cond-false (t (suc n)) (Some (suc n)) (greatest t n) (g.last (suc n) l (omega arith))
      ∙ greatest_from t n k (record { within = omega arith; passes = g.passes; last = λ j a b. g.last j a (omega arith) })
]

pub greatest_none : (t : ℕ → Bool) (bound j : ℕ) → greatest t bound ≡ None → j ≤ bound → t j ≡ false
greatest_none t bound j h l = false_from_ne_true (t j) (λ e. go bound j h l e)
  where
    go : (n j : ℕ) → greatest t n ≡ None → j ≤ n → t j ≡ true → ⊥
    go zero j h l e =
        let z : j ≡ 0 = omega (arith, l) in
        none-some 0 (sym h ∙ cond-true (t 0) (Some 0) None (subst (λ i. t i ≡ true) z e))
    go (suc n) j h l e = elim (cases_Bool (t (suc n))) [
      | inl pass ↦ none-some (suc n) (sym h ∙ cond-true (t (suc n)) (Some (suc n)) (greatest t n) pass)
      | inr fail ↦ elim (cases_eq j (suc n)) [
        | inl z ↦ both_ways (t (suc n)) fail (subst (λ i. t i ≡ true) z e)
        | inr ne ↦ go n j (sym (cond-false (t (suc n)) (Some (suc n)) (greatest t n) fail) ∙ h) (omega arith) e
      ]
    ]

-- where one passes, there is a greatest, no smaller
pub greatest_above : (t : ℕ → Bool) (bound j : ℕ) → j ≤ bound → t j ≡ true → (k : ℕ) × (greatest t bound ≡ Some k) × (j ≤ k)
greatest_above t bound j l h = go (greatest t bound) refl
  where
    go : (o : Option ℕ) → greatest t bound ≡ o → (k : ℕ) × (greatest t bound ≡ Some k) × (j ≤ k)
    go None e = absurd (both_ways (t j) (greatest_none t bound j e l) h)
    go (Some k) e = elim (cases_lt k j) [
      | inl below ↦ absurd (both_ways (t j) ((greatest_is t bound k e).last j below l) h)
      | inr above ↦ (k, e, above)
    ]
