-- What references mean, found by their first tokens.
use Rattle.std.proofs.Common.{◌≡◌, ℕ, zero, suc, ◌<◌, ◌≤◌, ◌⊎◌, inl, inr, Bool, true, false, cond, ◌==◌, List, [], ◌∷◌, length, get_or, map, Option, Some, None, Ok, Err, refl, sym, ap, ◌∙◌, arith, find, AllPairs, nat_cmp, eqb-true}
use Rattle.proto_base.proofs.Common.{IsBinarySearchResult, IsNonDecreasingBy, ordering_index, ranked, cases_Bool, cases_lt, nat_tests}
use Rattle.proto_ast.specs.declared.scene.MeantAt.{MeantAt}
use Rattle.proto_ast.specs.Common.{MeantOf, meant_of}

abbrev pub found : ℕ → List MeantAt → Option MeantOf
found t ms = find (λ m. m.token == t) (map meant_of ms)

abbrev pub Rising : List MeantAt → Type 0
Rising ms = AllPairs (λ m n. m.token < n.token) ms

other : (a b : ℕ) → (a ≡ b → ⊥) → (a == b) ≡ false
other a b h = elim (cases_Bool (a == b)) [
  | inl t ↦ absurd (h (eqb-true a b t))
  | inr f ↦ f
]

same : (a b : ℕ) → a ≡ b → (a == b) ≡ true
same a b e = grind (arith, nat_tests)

not_here : (m : MeantAt) (ms : List MeantAt) (t : ℕ) → (m.token ≡ t → ⊥) → found t (m ∷ ms) ≡ found t ms
not_here m ms t h = ap (λ (b : Bool). cond b (Some (meant_of m)) (found t ms)) (other m.token t h)

pub none_found : (ms : List MeantAt) (t : ℕ) → ((k : ℕ) (d : MeantAt) → k < length ms → (get_or ms k d).token ≡ t → ⊥) → found t ms ≡ None
none_found [] t h = refl
none_found (m ∷ ms) t h = not_here m ms t (h 0 m (omega arith)) ∙ none_found ms t (λ k d l. h (suc k) d (omega (arith, l)))

pub one_found : (ms : List MeantAt) (t i : ℕ) (d : MeantAt) → Rising ms → i < length ms → (get_or ms i d).token ≡ t → found t ms ≡ Some (meant_of (get_or ms i d))
one_found [] t i d up l e = absurd (omega (arith, l))
one_found (m ∷ ms) t zero d up l e = ap (λ (b : Bool). cond b (Some (meant_of m)) (found t ms)) (same m.token t e)
one_found (m ∷ ms) t (suc i) d up l e =
    not_here m ms t (λ same. omega (arith, up 0 (suc i) d (omega arith) l, e, same))
    ∙ one_found ms t i d (λ j k x p q. up (suc j) (suc k) x (omega (arith, p)) (omega (arith, q))) (omega (arith, l)) e

module _ (ms : List MeantAt) (t : ℕ) (up : Rising ms) where
  comparisons_rise : IsNonDecreasingBy (λ m. ordering_index (nat_cmp m.token t)) ms
  comparisons_rise i j d le l =
      let tokens : (get_or ms i d).token ≤ (get_or ms j d).token = grind (arith, up i j d, λ (same : i ≡ j). ap (λ (k : ℕ). (get_or ms k d).token) same) in
      grind (arith, nat_tests)

  -- what a binary search says
  pub is_found : (i : ℕ) (d : MeantAt) → i < length ms → IsBinarySearchResult (λ m. nat_cmp m.token t) ms (Ok i) → found t ms ≡ Some (meant_of (get_or ms i d))
  is_found i d l equal = one_found ms t i d up l (ranked _ t _ (sym (equal d)))

  pub is_missing : (i : ℕ) → IsBinarySearchResult (λ m. nat_cmp m.token t) ms (Err i) → found t ms ≡ None
  is_missing i parted = none_found ms t (λ k d l same. apart k d l same (cases_lt k i))
    where
      apart : (k : ℕ) (d : MeantAt) → k < length ms → (get_or ms k d).token ≡ t → (k < i) ⊎ (i ≤ k) → ⊥
      apart k d l same (inl lt) = omega (arith, ranked _ t _ (sym ((parted comparisons_rise).0 k d (omega arith) lt)), same)
      apart k d l same (inr le) = omega (arith, ranked _ t _ (sym ((parted comparisons_rise).1 k d le l)), same)
