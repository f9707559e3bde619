-- What holds of a value that was answered.
use Rattle.std.proofs.Common.{◌≡◌, ◌↔◌, ◌⊎◌, ℕ, Bool, true, false, IsTrue, List, Option, Some, Result, Ok, Err, IfOk, sym, ◌∙◌, subst, inl, inr}
use Rattle.proto_names.specs.Linking.{LinkOf}
use Rattle.proto_edit_captures.specs.Collisions.{IsOneTaken, IsTakenText}

pub if_ok : {A E : Type 0} (P Q : A → Type 0) (r : Result A E) → IfOk r P → ((x : A) → P x → Q x) → IfOk r Q
if_ok P Q (Ok x) h f = f x h
if_ok P Q (Err e) h f = tt

-- a test of one thing is one of the other, where these are the same
pub if_ok_tests : {E : Type 0} (P Q : Type 0) (r : Result Bool E) → IfOk r (λ is. IsTrue is ↔ P) → P ↔ Q → IfOk r (λ is. IsTrue is ↔ Q)
if_ok_tests P Q r h e = if_ok (λ (is : Bool). IsTrue is ↔ P) (λ (is : Bool). IsTrue is ↔ Q) r h (λ x t. (λ y. e.0 (t.0 y), λ y. t.1 (e.1 y)))

-- the first is not taken, so only the new entry's name may be
pub second_taken : {E : Type 0} (l : LinkOf) (front own : List ℕ) (entry : Option (List ℕ)) (to new : List ℕ) (o : Option (List ℕ)) → o ≡ Some new → (b : Bool) → IsTrue b ↔ IsTakenText l front own entry to → b ≡ false
    → (r : Result Bool E) → IfOk r (λ is. IsTrue is ↔ IsTakenText l front own entry new) → IfOk r (λ is. IsTrue is ↔ IsOneTaken l front own entry to o)
second_taken l front own entry to new o e b test other r h =
    subst (λ (z : Option (List ℕ)). IfOk r (λ is. IsTrue is ↔ IsOneTaken l front own entry to z)) (sym e)
    (if_ok_tests (IsTakenText l front own entry new) (IsOneTaken l front own entry to (Some new)) r h (λ k. inr k, back))
  where
    differ : false ≡ true → ⊥
    differ z = cc

    back : IsTakenText l front own entry to ⊎ IsTakenText l front own entry new → IsTakenText l front own entry new
    back (inl k) = absurd (differ (sym other ∙ test.1 k))
    back (inr k) = k
