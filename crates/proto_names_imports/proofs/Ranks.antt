-- Lists of numbers below a number, and ranks that fall along lists.
use Rattle.std.proofs.Common.{◌≡◌, ℕ, ◌+◌, ◌<◌, List, [], ◌∷◌, ◌++◌, length, get_or, map, sym, ap, ◌∙◌, subst, inl, inr, arith, All, Contains}
use Rattle.proto_base.proofs.Common.{cases_eq, get_or-map, All-push}

-- what is below a number is below one that is the same
pub same_bound : (n m : ℕ) (xs : List ℕ) → n ≡ m → All (λ g. g < n) xs → All (λ g. g < m) xs
same_bound n m xs same = subst (λ k. All (λ g. g < k) xs) same

-- what is pushed is below a number as well
pub below_push : (n : ℕ) (xs news : List ℕ) (x : ℕ) → news ≡ xs ++ x ∷ [] → All (λ g. g < n) xs → x < n → All (λ g. g < n) news
below_push n xs news x new h lt = subst (All (λ g. g < n)) (sym new) (All-push (λ g. g < n) xs x h lt)

-- one of lists whose numbers are all below a number, as it is seen
pub list_within : {X : Type 0} (view : X → List ℕ) (n m : ℕ) (xs : List X) (i : ℕ) (x : X) (seen : List ℕ) → i < length xs → x ≡ get_or xs i x → seen ≡ view x → n ≡ m → All (λ v. All (λ g. g < n) (view v)) xs → All (λ g. g < m) seen
list_within view n m xs i x seen lt is e same h = same_bound n m seen same (subst (All (λ g. g < n)) (ap view (sym is) ∙ sym e) (h i x lt))

-- ranks that fall along one list more
pub falls_more : {X : Type 0} (view : X → List ℕ) (rank : ℕ → ℕ) (xs : List X) (i : ℕ) (x : X) (seen : List ℕ) → i < length xs → x ≡ get_or xs i x → seen ≡ view x → All (λ g. rank g < rank i) seen
    → ((a b : ℕ) → a < i → Contains (get_or (map view xs) a []) b → rank b < rank a) → (a b : ℕ) → a < i + 1 → Contains (get_or (map view xs) a []) b → rank b < rank a
falls_more view rank xs i x seen lt is e below before a b less has = elim (cases_eq a i) [
  | inl same ↦
      let own : get_or (map view xs) i [] ≡ seen = get_or-map view xs i x [] lt ∙ ap view (sym is) ∙ sym e in
      let here : Contains seen b = subst (λ ys. Contains ys b) own (subst (λ k. Contains (get_or (map view xs) k []) b) same has) in
      subst (λ k. rank b < rank k) (sym same) (subst (λ k. rank k < rank i) here.2 (below here.0 b here.1))
  | inr ne ↦ before a b (omega (arith, less, ne)) has
]
