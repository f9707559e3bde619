-- Elements of lists by how many stand behind them.
use Rattle.std.proofs.Common.{◌≡◌, ℕ, suc, ◌-◌, ◌<◌, ◌≤◌, List, [], ◌∷◌, ◌++◌, length, get_or, map, slice_index_or, Option, Some, None, refl, sym, ap, ap₂, subst, ◌∙◌, inl, inr, arith, length-append, ◌==◌, option_to_list, Contains, eqb-true, eq-eqb}
use Rattle.proto_base.proofs.Common.{cases_Bool, cond-true, cond-false, both_ways, false_from_ne_true, get_or-map, length-map, none-some, same_Some, contains_cases, contains_head}
use Rattle.proto_tree.specs.declared.tree.Behind.{Behind}
use Rattle.proto_edit_rename.specs.StandingTokens.{from_end}

pub listed_is : {X : Type 0} (o : Option X) (x : X) → Contains (option_to_list o) x → o ≡ Some x
listed_is None x c = absurd (omega (arith, c.1))
listed_is (Some y) x c = elim (contains_cases y x [] c) [
  | inl e ↦ ap Some e
  | inr d ↦ absurd (omega (arith, d.1))
]

pub is_listed : {X : Type 0} (o : Option X) (x : X) → o ≡ Some x → Contains (option_to_list o) x
is_listed o x e = subst (λ z. Contains (option_to_list z) x) (sym e) (contains_head x [])

-- ---- with so many behind

pub end_at : (ts : List ℕ) (n : ℕ) → n < length ts → from_end n ts ≡ Some (get_or ts (length ts - 1 - n) 0)
end_at [] n l = absurd (omega (arith, l))
end_at (t ∷ ts) n l = elim (cases_Bool (length ts == n)) [
  | inl q ↦
      let e : length ts ≡ n = eqb-true (length ts) n q in
      cond-true (length ts == n) (Some t) (from_end n ts) q ∙ ap (λ (k : ℕ). Some (get_or (t ∷ ts) k 0)) {x = 0} {y = suc (length ts) - 1 - n} (omega (arith, e))
  | inr q ↦
      let differ : length ts ≡ n → ⊥ = λ e. both_ways (length ts == n) q (eq-eqb (length ts) n e) in
      let less : n < length ts = omega (arith, l, differ) in
      cond-false (length ts == n) (Some t) (from_end n ts) q ∙ end_at ts n less
      ∙ ap (λ (k : ℕ). Some (get_or (t ∷ ts) k 0)) {x = suc (length ts - 1 - n)} {y = suc (length ts) - 1 - n} (omega (arith, less))
]

pub none_at_end : (ts : List ℕ) (n : ℕ) → length ts ≤ n → from_end n ts ≡ None
none_at_end [] n l = refl
none_at_end (t ∷ ts) n l =
    cond-false (length ts == n) (Some t) (from_end n ts) (false_from_ne_true (length ts == n) (λ q. let e = eqb-true (length ts) n q in omega (arith, l, e)))
    ∙ none_at_end ts n (omega (arith, l))

-- of a first element and those behind it
pub end_behind : (first : ℕ) (bs : List (Behind ℕ)) (n : ℕ) (d : Behind ℕ) → n < length bs → Some (slice_index_or bs (length bs - 1 - n) d).item ≡ from_end n (first ∷ map (λ b. b.item) bs)
end_behind first bs n d l =
    let many = length-map bs (λ (b : Behind ℕ). b.item) in
    let xs = map (λ (b : Behind ℕ). b.item) bs in
    let differ = false_from_ne_true (length xs == n) (λ q. let e = eqb-true (length xs) n q in omega (arith, l, e, many)) in
    let same : length xs - 1 - n ≡ length bs - 1 - n = omega (arith, many) in
    sym
    (cond-false (length xs == n) (Some first) (from_end n xs) differ
    ∙ end_at xs n (omega (arith, l, many))
    ∙ ap (λ (i : ℕ). Some (get_or xs i 0)) same
    ∙ ap Some (get_or-map (λ (b : Behind ℕ). b.item) bs (length bs - 1 - n) d 0 (omega (arith, l))))

pub end_split : (ts : List ℕ) (n x : ℕ) → from_end n ts ≡ Some x → (before after : List ℕ) × (ts ≡ before ++ x ∷ after) × (length after ≡ n)
end_split [] n x e = absurd (none-some x e)
end_split (t ∷ ts) n x e = elim (cases_Bool (length ts == n)) [
  | inl q ↦ ([], ts, ap (λ (z : ℕ). z ∷ ts) (same_Some t x (sym (cond-true (length ts == n) (Some t) (from_end n ts) q) ∙ e)), eqb-true (length ts) n q)
  | inr q ↦
      let r = end_split ts n x (sym (cond-false (length ts == n) (Some t) (from_end n ts) q) ∙ e) in
      (t ∷ r.0, r.1, ap (λ (z : List ℕ). t ∷ z) r.2, r.3)
]

pub split_end : (before after : List ℕ) (x : ℕ) → from_end (length after) (before ++ x ∷ after) ≡ Some x
split_end [] after x = cond-true (length after == length after) (Some x) (from_end (length after) after) (eq-eqb (length after) (length after) refl)
split_end (b ∷ before) after x =
    let long = length-append before (x ∷ after) in
    cond-false (length (before ++ x ∷ after) == length after) (Some b) (from_end (length after) (before ++ x ∷ after))
    (false_from_ne_true (length (before ++ x ∷ after) == length after) (λ q. let e = eqb-true (length (before ++ x ∷ after)) (length after) q in omega (arith, e, long)))
    ∙ split_end before after x

-- ---- parts of lists

cons_head : {X : Type 0} (x y : X) (xs ys : List X) → x ∷ xs ≡ y ∷ ys → x ≡ y
cons_head x y xs ys e = cc

cons_tail : {X : Type 0} (x y : X) (xs ys : List X) → x ∷ xs ≡ y ∷ ys → xs ≡ ys
cons_tail x y xs ys e = cc

pub cons_parts : {X : Type 0} (x y : X) (xs ys : List X) → x ∷ xs ≡ y ∷ ys → (x ≡ y) × (xs ≡ ys)
cons_parts x y xs ys e = (cons_head x y xs ys e, cons_tail x y xs ys e)

not_nil : {X : Type 0} (x : X) (xs ys : List X) → [] ≡ xs ++ x ∷ ys → ⊥
not_nil x xs ys e = let l = ap length e in let m = length-append xs (x ∷ ys) in omega (arith, l, m)

pub split_map : {X Y : Type 0} (f : X → Y) (xs : List X) (before : List Y) (y : Y) (after : List Y) → map f xs ≡ before ++ y ∷ after
    → (front : List X) × (x : X) × (back : List X) × (xs ≡ front ++ x ∷ back) × (f x ≡ y) × (map f back ≡ after)
split_map f [] before y after e = absurd (not_nil y before after e)
split_map f (x ∷ xs) [] y after e = let p = cons_parts (f x) y (map f xs) after e in ([], x, xs, refl, p.0, p.1)
split_map f (x ∷ xs) (b ∷ before) y after e =
    let p = cons_parts (f x) b (map f xs) (before ++ y ∷ after) e in
    let r = split_map f xs before y after p.1 in
    (x ∷ r.0, r.1, r.2, ap (λ z. x ∷ z) r.3, r.4, r.5)

-- fronts are the same, where what stands behind them is as long
pub same_fronts : {X : Type 0} (a b x y : List X) → a ++ x ≡ b ++ y → length x ≡ length y → a ≡ b
same_fronts [] [] x y e l = refl
same_fronts [] (b ∷ bs) x y e l = let n = ap length e in let m = length-append (b ∷ bs) y in absurd (omega (arith, n, m, l))
same_fronts (a ∷ as_) [] x y e l = let n = ap length e in let m = length-append (a ∷ as_) x in absurd (omega (arith, n, m, l))
same_fronts (a ∷ as_) (b ∷ bs) x y e l =
    let p = cons_parts a b (as_ ++ x) (bs ++ y) e in
    ap₂ (λ z zs. z ∷ zs) p.0 (same_fronts as_ bs x y p.1 l)
