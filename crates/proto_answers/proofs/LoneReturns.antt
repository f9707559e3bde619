-- Carriage returns that stand alone.
use Rattle.std.proofs.Common.{◌≡◌, ◌≢◌, ◌↔◌, ℕ, ◌+◌, ◌<◌, ◌≤◌, Bool, true, false, length, get_or, slice_get, Some, IsTrue, refl, sym, ◌∙◌, subst, arith, inl, inr}
use Rattle.proto_base.proofs.Common.{cases_lt, same_Some, slice_get-get_or, slice_get_within}
use Rattle.proto_base.specs.Ascii as ascii
use Rattle.proto_base.proofs.Common.{Text}
use Rattle.proto_answers.specs.Common.{HasLoneReturn, IsLoneReturn}

-- a test that is false, of what does not hold
pub none_is : {P : Type 0} → (P → ⊥) → IsTrue false ↔ P
none_is never = (λ h. absurd (differ h), λ p. absurd (never p))
  where
    differ : false ≡ true → ⊥
    differ e = cc

-- a test that is true, of what holds
pub some_is : {P : Type 0} → P → IsTrue true ↔ P
some_is p = (λ h. p, λ h. refl)

-- ---- at one offset

module _ (text : Text) (o : ℕ) (within : o < length text) where
  here_is : slice_get text o ≡ Some (get_or text o 0)
  here_is = slice_get-get_or text o 0 within

  pub no_return_there : get_or text o 0 ≢ ascii.carriage_return → IsTrue false ↔ IsLoneReturn text o
  no_return_there other = none_is (λ r. other (same_Some (get_or text o 0) ascii.carriage_return (sym here_is ∙ r.here)))

-- ---- at each offset

-- none below this offset
abbrev pub NoneBelow : Text → ℕ → Type 0
NoneBelow text n = (o : ℕ) → o < n → IsLoneReturn text o → ⊥

pub none_more : (text : Text) (n : ℕ) (b : Bool) → NoneBelow text n → b ≡ false → IsTrue b ↔ IsLoneReturn text n → NoneBelow text (n + 1)
none_more text n b none fails test o below r = elim (cases_lt o n) [
  | inl lt ↦ none o lt r
  | inr le ↦
      let at : o ≡ n = omega (arith, below, le) in
      differ (sym fails ∙ test.1 (subst (IsLoneReturn text) at r))
]
  where
    differ : false ≡ true → ⊥
    differ e = cc

pub none_at_all : (text : Text) (n : ℕ) → length text ≤ n → NoneBelow text n → IsTrue false ↔ HasLoneReturn text
none_at_all text n end none = none_is (λ r.
    let within = slice_get_within text r.0 ascii.carriage_return r.1.here in
    none r.0 (omega (arith, within, end)) r.1)
