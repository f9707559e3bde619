-- Lists that are made file after file, where one file changes.
use Rattle.std.proofs.Common.{◌≡◌, ◌≢◌, ℕ, suc, ◌+◌, ◌≤◌, List, [], ◌∷◌, ◌++◌, length, refl, sym, ap₂, subst, arith}

module _ {F A : Type 0} where
  -- what each file of a list gives, from this number on
  abbrev pub walk : (ℕ → F → List A) → ℕ → List F → List A
  walk each n [] = []
  walk each n (f ∷ fs) = each n f ++ walk each (suc n) fs

  pub walk_same : (a b : ℕ → F → List A) (n : ℕ) (fs : List F) → ((k : ℕ) (f : F) → n ≤ k → b k f ≡ a k f) → walk b n fs ≡ walk a n fs
  walk_same a b n [] same = refl
  walk_same a b n (f ∷ fs) same = ap₂ (λ (y z : List A). y ++ z) (same n f (omega arith)) (walk_same a b (suc n) fs (λ k g l. same k g (omega (arith, l))))

  -- What is so of the lists of one file, and stays so with others in front and behind, is so of the lists of all.
  module _ (Is : List A → List A → Type 0) (in_front : (zs xs ys : List A) → Is xs ys → Is (zs ++ xs) (zs ++ ys)) (behind_it : (zs xs ys : List A) → Is xs ys → Is (xs ++ zs) (ys ++ zs)) (a b : ℕ → F → List A) where
    pub walk_one : (n : ℕ) (before : List F) (old new : F) (behind : List F) → ((k : ℕ) (f : F) → k ≢ n + length before → b k f ≡ a k f)
        → Is (a (n + length before) old) (b (n + length before) new) → Is (walk a n (before ++ old ∷ behind)) (walk b n (before ++ new ∷ behind))
    walk_one n [] old new behind others own =
        let here : n + 0 ≡ n = omega arith in
        let rest : walk b (suc n) behind ≡ walk a (suc n) behind = walk_same a b (suc n) behind (λ k f l. others k f (λ e. omega (arith, l, e))) in
        subst (λ (z : List A). Is (a n old ++ walk a (suc n) behind) (b n new ++ z)) (sym rest)
        (behind_it (walk a (suc n) behind) (a n old) (b n new) (subst (λ (m : ℕ). Is (a m old) (b m new)) here own))
    walk_one n (f ∷ before) old new behind others own =
        let here : n + suc (length before) ≡ suc n + length before = omega arith in
        subst (λ (z : List A). Is (a n f ++ walk a (suc n) (before ++ old ∷ behind)) (z ++ walk b (suc n) (before ++ new ∷ behind))) (sym (others n f (λ e. omega (arith, e))))
        (in_front (a n f) (walk a (suc n) (before ++ old ∷ behind)) (walk b (suc n) (before ++ new ∷ behind))
        (walk_one (suc n) before old new behind (λ k g ne. others k g (λ e. ne (omega (arith, e)))) (subst (λ (m : ℕ). Is (a m old) (b m new)) here own)))
