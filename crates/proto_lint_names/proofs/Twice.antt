-- Names that rise: one of them stands more than once where it stands at the second place of those that are not below it.
use Rattle.std.proofs.Common.{◌≡◌, ℕ, zero, suc, ◌+◌, ◌<◌, ◌≤◌, Bool, true, false, cond, List, [], ◌∷◌, length, get_or, drop, map, Ordering, refl, sym, ap, ◌∙◌, arith, rules, length-drop, get_or-drop, nat_le, filter, IsPermutation, IsSortedBy, nat_cmp, is_lt, is_eq, bytes_eq, le-leb}
use Rattle.proto_base.proofs.Common.{IsPartitionPoint, IsPartitionedBy, slice_cmp, nat_list_cmp_total, ordering_index, ordering_reverse, Less, Equal, Greater, cond-true, cond-false, cond_both, IsPermutation-map, ranks_by, searchable_from_sorted, sorted_far, sum_by-IsPermutation, length-filter, is_eq-slice_cmp, bytes_eq-Decides}
use Rattle.proto_lint_names.specs.Methods.{is_shared}

abbrev pub is_below : List ℕ → List ℕ → Bool
is_below s t = is_lt (slice_cmp nat_cmp s t)

-- ---- one name and another

same_if_tied : (s t : List ℕ) → slice_cmp nat_cmp s t ≡ Equal → s ≡ t
same_if_tied s t e = (bytes_eq-Decides s t).0 (sym (is_eq-slice_cmp s t) ∙ ap is_eq e)

differs_if_below : (s t : List ℕ) → is_below s t ≡ true → bytes_eq t s ≡ false
differs_if_below s t h = go (bytes_eq t s) refl
  where
    tied : (u : List ℕ) → is_below u u ≡ true → false ≡ true
    tied u below = split (slice_cmp nat_cmp u u) refl
      where
        split : (o : Ordering) → slice_cmp nat_cmp u u ≡ o → false ≡ true
        split Less e = ap is_eq (sym e) ∙ is_eq-slice_cmp u u ∙ (bytes_eq-Decides u u).1 refl
        split Equal e = sym (ap is_lt e) ∙ below
        split Greater e = sym (ap is_lt e) ∙ below

    go : (b : Bool) → bytes_eq t s ≡ b → b ≡ false
    go false e = refl
    go true e = sym (tied s (ap (λ (u : List ℕ). is_below s u) (sym ((bytes_eq-Decides t s).0 e)) ∙ h))

same_if_neither : (s t : List ℕ) → is_below s t ≡ false → is_below t s ≡ false → bytes_eq t s ≡ true
same_if_neither s t a b = split (slice_cmp nat_cmp s t) refl
  where
    split : (o : Ordering) → slice_cmp nat_cmp s t ≡ o → bytes_eq t s ≡ true
    split Less e = absurd (true_is_false (sym (ap is_lt e) ∙ a))
      where
        true_is_false : true ≡ false → ⊥
        true_is_false e = search rules
    split Equal e = (bytes_eq-Decides t s).1 (sym (same_if_tied s t e))
    split Greater e = absurd (true_is_false (sym (ap is_lt ((nat_list_cmp_total).antisymm t s ∙ ap ordering_reverse e)) ∙ b))
      where
        true_is_false : true ≡ false → ⊥
        true_is_false e = search rules

-- ---- lists of them, where f gives an element's name

abbrev pub Rises : {X : Type 0} → (X → List ℕ) → List X → Type 0
Rises f xs = (i j : ℕ) (d : _) → i ≤ j → j < length xs → is_below (f (get_or xs j d)) (f (get_or xs i d)) ≡ false

-- none of them is below the name
abbrev pub NoneBelow : {X : Type 0} → (X → List ℕ) → List ℕ → List X → Type 0
NoneBelow f name xs = (k : ℕ) (d : _) → k < length xs → is_below (f (get_or xs k d)) name ≡ false

-- those of a name
abbrev pub named : {X : Type 0} → (X → List ℕ) → List ℕ → List X → List (List ℕ)
named f name xs = filter (bytes_eq name) (map f xs)

-- those below the name are not it
pub front_dropped : {X : Type 0} (f : X → List ℕ) (name : List ℕ) (xs : List X) (i : ℕ) → i ≤ length xs → ((k : ℕ) (d : X) → k < i → is_below (f (get_or xs k d)) name ≡ true) → named f name xs ≡ named f name (drop i xs)
front_dropped f name [] zero le h = refl
front_dropped f name [] (suc i) le h = refl
front_dropped f name (x ∷ xs) zero le h = refl
front_dropped f name (x ∷ xs) (suc i) le h =
    cond-false _ _ _ (differs_if_below (f x) name (h 0 x (omega arith))) ∙ front_dropped f name xs i (omega arith) (λ k d lt. h (suc k) d (omega (arith, lt)))

none_named : {X : Type 0} (f : X → List ℕ) (name : List ℕ) (xs : List X) → ((k : ℕ) (d : X) → k < length xs → bytes_eq name (f (get_or xs k d)) ≡ false) → named f name xs ≡ []
none_named f name [] h = refl
none_named f name (x ∷ xs) h = cond-false _ _ _ (h 0 x (omega arith)) ∙ none_named f name xs (λ k d lt. h (suc k) d (omega (arith, lt)))

-- one of them alone
pub short_named : {X : Type 0} (f : X → List ℕ) (name : List ℕ) (xs : List X) → length xs ≤ 1 → false ≡ nat_le 2 (length (named f name xs))
short_named f name [] le = refl
short_named f name (x ∷ []) le = cond_both (bytes_eq name (f x)) (f x ∷ []) [] (λ ys. false ≡ nat_le 2 (length ys)) (λ e. refl) (λ e. refl)
short_named f name (x ∷ y ∷ xs) le = absurd (omega (arith, le))

both_named : {X : Type 0} (f : X → List ℕ) (name : List ℕ) (x y : X) (xs : List X) → bytes_eq name (f x) ≡ true → bytes_eq name (f y) ≡ true → true ≡ nat_le 2 (length (named f name (x ∷ y ∷ xs)))
both_named f name x y xs a b =
    let all : named f name (x ∷ y ∷ xs) ≡ f x ∷ f y ∷ named f name xs = cond-true _ _ _ a ∙ ap (λ ys. f x ∷ ys) (cond-true _ _ _ b) in
    sym (ap (λ (ys : List (List ℕ)). nat_le 2 (length ys)) all ∙ le-leb 2 (suc (suc (length (named f name xs)))) (omega arith))

first_named : {X : Type 0} (f : X → List ℕ) (name : List ℕ) (x y : X) (xs : List X) → bytes_eq name (f y) ≡ false → named f name xs ≡ [] → false ≡ nat_le 2 (length (named f name (x ∷ y ∷ xs)))
first_named f name x y xs b none =
    let rest : named f name (y ∷ xs) ≡ [] = cond-false _ _ _ b ∙ none in
    cond_both (bytes_eq name (f x)) (f x ∷ named f name (y ∷ xs)) (named f name (y ∷ xs)) (λ ys. false ≡ nat_le 2 (length ys))
    (λ e. sym (ap (λ (ys : List (List ℕ)). nat_le 2 (suc (length ys))) rest)) (λ e. sym (ap (λ (ys : List (List ℕ)). nat_le 2 (length ys)) rest))

-- the second place decides
second_decides : {X : Type 0} (f : X → List ℕ) (name : List ℕ) (x y : X) (xs : List X) → Rises f (x ∷ y ∷ xs) → NoneBelow f name (x ∷ y ∷ xs) → (b : Bool) → bytes_eq name (f y) ≡ b → b ≡ nat_le 2 (length (named f name (x ∷ y ∷ xs)))
second_decides f name x y xs rises none true e =
    let is : name ≡ f y = (bytes_eq-Decides name (f y)).0 e in
    let later : is_below name (f x) ≡ false = ap (λ (s : List ℕ). is_below s (f x)) is ∙ rises 0 1 x (omega arith) (omega arith) in
    both_named f name x y xs (same_if_neither (f x) name (none 0 x (omega arith)) later) e
second_decides f name x y xs rises none false e =
    first_named f name x y xs e (none_named f name xs (λ k d lt. go k d lt (bytes_eq name (f (get_or xs k d))) refl))
  where
    go : (k : ℕ) (d : _) → k < length xs → (b : Bool) → bytes_eq name (f (get_or xs k d)) ≡ b → b ≡ false
    go k d lt false same = refl
    go k d lt true same =
        let is : name ≡ f (get_or xs k d) = (bytes_eq-Decides name (f (get_or xs k d))).0 same in
        let below : is_below name (f y) ≡ false = ap (λ (s : List ℕ). is_below s (f y)) is ∙ rises 1 (suc (suc k)) d (omega arith) (omega (arith, lt)) in
        sym (same_if_neither (f y) name (none 1 d (omega arith)) below) ∙ e

pub second_named : {X : Type 0} (f : X → List ℕ) (name : List ℕ) (xs : List X) (y : X) → 1 < length xs → y ≡ get_or xs 1 y → Rises f xs → NoneBelow f name xs → bytes_eq name (f y) ≡ nat_le 2 (length (named f name xs))
second_named f name [] y lt is rises none = absurd (omega (arith, lt))
second_named f name (x ∷ []) y lt is rises none = absurd (omega (arith, lt))
second_named f name (x ∷ z ∷ xs) y lt is rises none = ap (λ (u : _). bytes_eq name (f u)) is ∙ second_decides f name x z xs rises none (bytes_eq name (f z)) refl

-- ---- in a sorted list, at a place before which all are below the name

index_keeps : (o q : Ordering) → ordering_index o ≤ ordering_index q → is_lt q ≡ true → is_lt o ≡ true
index_keeps Less q le h = refl
index_keeps Equal Less le h = absurd (omega (arith, le))
index_keeps Equal Equal le h = h
index_keeps Equal Greater le h = h
index_keeps Greater Less le h = absurd (omega (arith, le))
index_keeps Greater Equal le h = h
index_keeps Greater Greater le h = h

-- those below a name come first
pub parted : {X : Type 0} (f : X → List ℕ) (name : List ℕ) (xs : List X) → IsSortedBy (λ x y. is_below (f x) (f y)) xs → IsPartitionedBy (λ y. is_below (f y) name) xs
parted f name xs sorted = λ i j d le lt h.
    index_keeps (slice_cmp nat_cmp (f (get_or xs i d)) name) (slice_cmp nat_cmp (f (get_or xs j d)) name) (searchable_from_sorted nat_list_cmp_total f xs name sorted i j d le lt) h

dropped_rises : {X : Type 0} (f : X → List ℕ) (xs : List X) (n : ℕ) → IsSortedBy (λ x y. is_below (f x) (f y)) xs → Rises f (drop n xs)
dropped_rises f xs n sorted = λ i j d le lt.
    ap (λ (x : _). is_below (f x) (f (get_or (drop n xs) i d))) (get_or-drop n xs j d) ∙ ap (λ (x : _). is_below (f (get_or xs (n + j) d)) (f x)) (get_or-drop n xs i d)
    ∙ sorted_far (λ x y. is_below (f x) (f y)) (ranks_by nat_list_cmp_total f) xs sorted (n + i) (n + j) d (omega (arith, le)) (omega (arith, lt, length-drop n xs))

dropped_none_below : {X : Type 0} (f : X → List ℕ) (name : List ℕ) (xs : List X) (n : ℕ) → ((k : ℕ) (d : X) → n ≤ k → k < length xs → is_below (f (get_or xs k d)) name ≡ false) → NoneBelow f name (drop n xs)
dropped_none_below f name xs n h = λ k d lt. ap (λ (x : _). is_below (f x) name) (get_or-drop n xs k d) ∙ h (n + k) d (omega arith) (omega (arith, lt, length-drop n xs))

pub next_decides : {X : Type 0} (f : X → List ℕ) (name : List ℕ) (xs : List X) (i : ℕ) (y : X) → IsSortedBy (λ x y. is_below (f x) (f y)) xs
    → IsPartitionPoint (λ y. is_below (f y) name ≡ true) (λ y. is_below (f y) name ≡ false) xs i → i + 1 < length xs → y ≡ get_or xs (i + 1) y → bytes_eq name (f y) ≡ is_shared (map f xs) name
next_decides f name xs i y sorted point lt is =
    second_named f name (drop i xs) y (omega (arith, lt, length-drop i xs)) (is ∙ sym (get_or-drop i xs 1 y)) (dropped_rises f xs i sorted) (dropped_none_below f name xs i point.1)
    ∙ ap (λ (ys : List (List ℕ)). nat_le 2 (length ys)) (sym (front_dropped f name xs i (omega (arith, lt)) (λ k d below. point.0 k d (omega arith) below)))

pub next_is_none : {X : Type 0} (f : X → List ℕ) (name : List ℕ) (xs : List X) (i : ℕ)
    → IsPartitionPoint (λ y. is_below (f y) name ≡ true) (λ y. is_below (f y) name ≡ false) xs i → i ≤ length xs → length xs ≤ i + 1 → false ≡ is_shared (map f xs) name
next_is_none f name xs i point le short =
    short_named f name (drop i xs) (omega (arith, short, length-drop i xs))
    ∙ ap (λ (ys : List (List ℕ)). nat_le 2 (length ys)) (sym (front_dropped f name xs i le (λ k d below. point.0 k d (omega arith) below)))

-- ---- the same names in another order

pub shared_of_moved : {X : Type 0} (f : X → List ℕ) (name : List ℕ) (xs ys : List X) → IsPermutation xs ys → is_shared (map f ys) name ≡ is_shared (map f xs) name
shared_of_moved f name xs ys moved =
    ap (nat_le 2) (length-filter (bytes_eq name) (map f ys) ∙ sum_by-IsPermutation (λ x. cond (bytes_eq name x) 1 0) (map f xs) (map f ys) (IsPermutation-map f xs ys moved) ∙ sym (length-filter (bytes_eq name) (map f xs)))
