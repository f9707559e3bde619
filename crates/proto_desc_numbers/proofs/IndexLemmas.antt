-- Ranges in order: what the index answers is what the ranges say (for the crates above).
use Rattle.std.proofs.Common.{◌≡◌, ℕ, ℤ, ◌+◌, ◌-◌, ◌<◌, ◌≤◌, Bool, true, false, ◌||◌, ◌&&◌, List, [], ◌∷◌, ◌++◌, length, get_or, take, Option, refl, sym, ap, subst, ◌∙◌, inl, inr, ◌⊎◌, if◌then◌else◌, Less, Equal, Greater, arith, nat_lt, int_le, int_lt, int_cmp, is_lt, filter, Contains, IsSortedByKey, lt-ltb, ltb-true, take_all, length-take, get_or-take}
use Rattle.proto_base.proofs.Common.{list_any, IsPartitionPoint, IsPartitionedBy, cases_Bool, cases_lt, both_ways, int_cmp_total, ints, take_more, take-append-le, list_any_at, list_any_more, ranks_by, sorted_far, list_any-IsPermutation, Contains-permutation, IsPermutation-sym, any_agree, any_to, contains_cases}
use Rattle.std.specs.Fn.{Called, ComputesKey}
use denote.Ref.{Bor}
use denote.Param.Members.{Mut}
use Rattle.std.proofs.lemmas.Fn.{always_returns_same}
use Rattle.std.proofs.Math.ListN.{get_or-append}
use Rattle.std.proofs.Math.Seq.{get_or-append_seam}
use Rattle.std.proofs.lemmas.Map.Views.{any-filter_same}
use Rattle.proto_ast.specs.declared.ranges.RangeAt.{RangeAt}
use Rattle.proto_desc_numbers.specs.Common.{is_inside, share, has_numbers, RangesAreInOrder, reach, range_reaches, AreRaised, IsRangeIndexOf}
use Rattle.proto_desc_numbers.proofs.CappedRanges.{agree as both}

le_trans : (a b c : ℤ) → int_le a b ≡ true → int_le b c ≡ true → int_le a c ≡ true
le_trans a b c h k = grind (arith, ints)

not_less : (a b : ℤ) → is_lt (int_cmp b a) ≡ false → int_le a b ≡ true
not_less a b h = elim (cases_Bool (int_lt b a)) [
  | inl lt ↦ absurd (both_ways (is_lt (int_cmp b a)) h (ap (λ (x : Bool). is_lt (if x then Less else (if int_lt a b then Greater else Equal))) lt))
  | inr ge ↦ grind (arith, ints)
]

-- ---- ranges in order

pub in_order_from_sort : {F : Type 0} {g : Mut F (Bor RangeAt × Unit {0}) ℤ} {f : F} (rs : List RangeAt)
    → ((key : RangeAt → ℤ) → ComputesKey g key f → IsSortedByKey key int_cmp rs)
    → ((a : Bor RangeAt × Unit {0}) (r : ℤ) (f' : F) → Called g f a r f' → (r ≡ a.0.now.first) × (f' ≡ f)) → RangesAreInOrder rs
in_order_from_sort {g = g} {f = f} rs up h =
    let sorted = up (λ r. r.first) (always_returns_same g (λ a r. r ≡ a.0.now.first) f h) in
    λ i j d le lt. not_less (get_or rs i d).first (get_or rs j d).first (sorted_far (λ x y. is_lt (int_cmp x.first y.first)) (ranks_by int_cmp_total (λ (r : RangeAt). r.first)) rs sorted i j d le lt)

pub partitioned : (rs : List RangeAt) (n : ℤ) → RangesAreInOrder rs → IsPartitionedBy (λ r. int_le r.first n) rs
partitioned rs n up i j d le lt h = le_trans _ _ n (up i j d le lt) h

-- ---- raised ends

pub none_raised : AreRaised [] []
none_raised = record { len = refl; first = λ k d lt. absurd (omega (arith, lt)); last = λ k d n lt. absurd (omega (arith, lt)) }

pub raised_more : (rs raised : List RangeAt) (x new : RangeAt) → AreRaised rs raised → new.first ≡ x.first → ((n : ℤ) → int_le n new.last ≡ reach n (rs ++ x ∷ [])) → AreRaised (rs ++ x ∷ []) (raised ++ new ∷ [])
raised_more rs raised x new h e l =
    record {
      len = length_snoc raised new ∙ ap (λ n. n + 1) h.len ∙ sym (length_snoc rs x);
      first = λ k d lt. elim (place k lt) [
        | inl low ↦ ap (λ (r : RangeAt). r.first) (get_or-append raised (new ∷ []) d k (omega (arith, low, h.len))) ∙ h.first k d low ∙ ap (λ (r : RangeAt). r.first) (sym (get_or-append rs (x ∷ []) d k low))
        | inr same ↦ ap (λ (r : RangeAt). r.first) (at_end raised new d k (same ∙ sym h.len)) ∙ e ∙ ap (λ (r : RangeAt). r.first) (sym (at_end rs x d k same))
      ];
      last = λ k d n lt. elim (place k lt) [
        | inl low ↦ ap (λ (r : RangeAt). int_le n r.last) (get_or-append raised (new ∷ []) d k (omega (arith, low, h.len))) ∙ h.last k d n low ∙ ap (reach n) (sym (take-append-le (k + 1) rs (x ∷ []) (omega (arith, low))))
        | inr same ↦ ap (λ (r : RangeAt). int_le n r.last) (at_end raised new d k (same ∙ sym h.len)) ∙ l n ∙ ap (reach n) (sym (take_all (k + 1) (rs ++ x ∷ []) (omega (arith, same, length_snoc rs x))))
      ];
    }
  where
    length_snoc : (ys : List RangeAt) (y : RangeAt) → length (ys ++ y ∷ []) ≡ length ys + 1
    length_snoc [] y = refl
    length_snoc (z ∷ ys) y = let more = length_snoc ys y in omega (arith, more)

    place : (k : ℕ) → k < length (rs ++ x ∷ []) → (k < length rs) ⊎ (k ≡ length rs)
    place k lt = elim (cases_lt k (length rs)) [
      | inl low ↦ inl low
      | inr high ↦ inr (omega (arith, high, lt, length_snoc rs x))
    ]

    at_end : (ys : List RangeAt) (y d : RangeAt) (k : ℕ) → k ≡ length ys → get_or (ys ++ y ∷ []) k d ≡ y
    at_end ys y d k same = ap (λ n. get_or (ys ++ y ∷ []) n d) same ∙ get_or-append_seam ys y [] d

pub most_turn : (rs : List RangeAt) (i : ℕ) (d : RangeAt) (new : RangeAt) (most : Option RangeAt) → i < length rs
    → ((n : ℤ) → range_reaches n most ≡ reach n (take i rs)) → ((n : ℤ) → int_le n new.last ≡ (range_reaches n most || int_le n (get_or rs i d).last)) → (n : ℤ) → int_le n new.last ≡ reach n (take (i + 1) rs)
most_turn rs i d new most lt m is n = is n ∙ ap (λ (b : Bool). b || int_le n (get_or rs i d).last) (m n) ∙ sym (list_any_more (λ (r : RangeAt). int_le n r.last) rs i d lt)

pub raised_turn : (rs : List RangeAt) (i : ℕ) (d : RangeAt) (before after : List RangeAt) (new : RangeAt) (most : Option RangeAt) → i < length rs
    → AreRaised (take i rs) before → ((n : ℤ) → range_reaches n most ≡ reach n (take i rs)) → after ≡ before ++ new ∷ []
    → new.first ≡ (get_or rs i d).first → ((n : ℤ) → int_le n new.last ≡ (range_reaches n most || int_le n (get_or rs i d).last)) → AreRaised (take (i + 1) rs) after
raised_turn rs i d before after new most lt h m e first last =
    subst (AreRaised (take (i + 1) rs)) (sym e)
    (subst (λ (ys : List RangeAt). AreRaised ys (before ++ new ∷ [])) (sym (take_more rs i d lt))
    (raised_more (take i rs) before (get_or rs i d) new h first (λ n. most_turn rs i d new most lt m last n ∙ ap (reach n) (take_more rs i d lt))))

-- ---- looking up

and_true : (a b : Bool) → (a && b) ≡ true → (a ≡ true) × (b ≡ true)
and_true true b h = (refl, h)
and_true false b h = absurd (both_ways false refl h)

true_and : (a b : Bool) → a ≡ true → b ≡ true → (a && b) ≡ true
true_and true b h k = k
true_and false b h k = absurd (both_ways false refl h)

filter_has : (rs : List RangeAt) (r : RangeAt) → Contains (filter has_numbers rs) r → has_numbers r ≡ true
filter_has [] r c = absurd (omega (arith, c.1))
filter_has (x ∷ rs) r c = elim (cases_Bool (has_numbers x)) [
  | inl has ↦ elim (contains_cases x r (filter has_numbers rs) (subst (λ (b : Bool). Contains (if b then x ∷ filter has_numbers rs else filter has_numbers rs) r) has c)) [
    | inl e ↦ subst (λ (z : RangeAt). has_numbers z ≡ true) e has
    | inr later ↦ filter_has rs r later
  ]
  | inr not ↦ filter_has rs r (subst (λ (b : Bool). Contains (if b then x ∷ filter has_numbers rs else filter has_numbers rs) r) not c)
]

found_by_index : (xs index : List RangeAt) (r d : RangeAt) (place : ℕ) → ((x : RangeAt) → Contains xs x → has_numbers x ≡ true) → AreRaised xs index → place ≤ length index
    → IsPartitionPoint (λ x. int_le x.first r.last ≡ true) (λ x. int_le x.first r.last ≡ false) index place
    → (has_numbers r && (nat_lt 0 place && int_le r.first (get_or index (place - 1) d).last)) ≡ list_any (λ x. share x r) xs
found_by_index xs index r d place has raised bound point = both _ _ forth back
  where
    last_is : 0 < place → int_le r.first (get_or index (place - 1) d).last ≡ reach r.first (take place xs)
    last_is some = raised.last (place - 1) d r.first (omega (arith, some, bound, raised.len)) ∙ ap (λ n. reach r.first (take n xs)) (by place some)
      where
        by : (n : ℕ) → 0 < n → n - 1 + 1 ≡ n
        by n lt = omega (arith, lt)

    first_is : (x : RangeAt) (k : ℕ) → k < length xs → get_or xs k x ≡ x → (get_or index k x).first ≡ x.first
    first_is x k lt same = raised.first k x lt ∙ ap (λ (z : RangeAt). z.first) same

    begun_before : (x : RangeAt) (k : ℕ) → k < length xs → get_or xs k x ≡ x → int_le x.first r.last ≡ true → k < place
    begun_before x k lt same h = elim (cases_lt k place) [
      | inl low ↦ low
      | inr high ↦ absurd (both_ways (int_le x.first r.last) (subst (λ (z : ℤ). int_le z r.last ≡ false) (first_is x k lt same) (point.1 k x high (omega (arith, lt, raised.len)))) h)
    ]

    forth : (has_numbers r && (nat_lt 0 place && int_le r.first (get_or index (place - 1) d).last)) ≡ true → list_any (λ x. share x r) xs ≡ true
    forth h =
        let one = and_true (has_numbers r) _ h in
        let two = and_true (nat_lt 0 place) _ one.1 in
        let some : 0 < place = ltb-true 0 place two.0 in
        let seen = any_to (λ (x : RangeAt). int_le r.first x.last) (take place xs) (sym (last_is some) ∙ two.1) in
        go one.0 seen.0 seen.1.0 seen.1.1 seen.1.2 seen.2
      where
        go : has_numbers r ≡ true → (x : RangeAt) (k : ℕ) → k < length (take place xs) → get_or (take place xs) k x ≡ x → int_le r.first x.last ≡ true → list_any (λ x. share x r) xs ≡ true
        go some_of x k lt e h =
            let low : k < place = omega (arith, lt, length-take place xs) in
            let within : k < length xs = omega (arith, lt, length-take place xs) in
            let same : get_or xs k x ≡ x = sym (get_or-take place xs k x low) ∙ e in
            let begins : int_le x.first r.last ≡ true = subst (λ (z : ℤ). int_le z r.last ≡ true) (first_is x k within same) (point.0 k x (omega arith) low) in
            list_any_at (λ x. share x r) xs k x within (subst (λ (z : RangeAt). share z r ≡ true) (sym same) (true_and _ _ (has x (k, within, same)) (true_and _ _ some_of (true_and _ _ begins h))))

    back : list_any (λ x. share x r) xs ≡ true → (has_numbers r && (nat_lt 0 place && int_le r.first (get_or index (place - 1) d).last)) ≡ true
    back h = let seen = any_to (λ (x : RangeAt). share x r) xs h in go seen.0 seen.1.0 seen.1.1 seen.1.2 seen.2
      where
        go : (x : RangeAt) (k : ℕ) → k < length xs → get_or xs k x ≡ x → share x r ≡ true → (has_numbers r && (nat_lt 0 place && int_le r.first (get_or index (place - 1) d).last)) ≡ true
        go x k lt same h =
            let one = and_true (has_numbers x) _ h in
            let two = and_true (has_numbers r) _ one.1 in
            let three = and_true (int_le x.first r.last) _ two.1 in
            let low : k < place = begun_before x k lt same three.0 in
            let some : 0 < place = omega (arith, low) in
            true_and _ _ two.0 (true_and _ _ (lt-ltb 0 place some) (last_is some ∙ list_any_at (λ (x : RangeAt). int_le r.first x.last) (take place xs) k x (omega (arith, low, lt, length-take place xs)) (ap (λ (z : RangeAt). int_le r.first z.last) (get_or-take place xs k x low ∙ same) ∙ three.1)))

pub shares_is : (rs index : List RangeAt) (r d : RangeAt) (place : ℕ) → IsRangeIndexOf rs index → place ≤ length index
    → (RangesAreInOrder index → IsPartitionPoint (λ x. int_le x.first r.last ≡ true) (λ x. int_le x.first r.last ≡ false) index place)
    → (has_numbers r && (nat_lt 0 place && int_le r.first (get_or index (place - 1) d).last)) ≡ list_any (λ x. share x r) rs
shares_is rs index r d place is bound point =
    found_by_index is.sorted index r d place (λ x c. filter_has rs x (Contains-permutation _ _ x (IsPermutation-sym _ _ is.same) c)) is.raised bound (point order)
    ∙ sym (list_any-IsPermutation (λ x. share x r) (filter has_numbers rs) is.sorted is.same)
    ∙ any-filter_same (λ x. share x r) has_numbers true (λ x h. (and_true (has_numbers x) _ h).0) rs
  where
    order : RangesAreInOrder index
    order i j d le lt = subst (λ (z : ℤ). int_le z (get_or index j d).first ≡ true) (sym (is.raised.first i d (omega (arith, le, lt, is.raised.len)))) (subst (λ (z : ℤ). int_le (get_or is.sorted i d).first z ≡ true) (sym (is.raised.first j d (omega (arith, lt, is.raised.len)))) (is.order i j d le (omega (arith, lt, is.raised.len))))

pub is_begun : (b x : Bool) → b ≡ true → x ≡ (b && x)
is_begun true x h = refl
is_begun false x h = absurd (both_ways false refl h)

pub is_empty : (b x : Bool) → b ≡ false → false ≡ (b && x)
is_empty true x h = absurd (both_ways true h refl)
is_empty false x h = refl

-- ---- one number

le_itself : (n : ℤ) → int_le n n ≡ true
le_itself n = grind (arith, ints)

one_inside : (a b n : ℤ) → (int_le a b && (int_le n n && (int_le a n && int_le n b))) ≡ (int_le a n && int_le n b)
one_inside a b n = both _ _
    (λ h. (and_true (int_le n n) _ (and_true (int_le a b) _ h).1).1)
    (λ h. let k = and_true (int_le a n) _ h in true_and _ _ (le_trans a n b k.0 k.1) (true_and _ _ (le_itself n) h))

pub alone_inside : (rs : List RangeAt) (n : ℤ) (x : RangeAt) → x.first ≡ n → x.last ≡ n → list_any (λ r. share r x) rs ≡ list_any (is_inside n) rs
alone_inside rs n x first last = any_agree (λ r. share r x) (is_inside n) rs (λ r. by r x.first x.last first last)
  where
    by : (r : RangeAt) (a b : ℤ) → a ≡ n → b ≡ n → (int_le r.first r.last && (int_le a b && (int_le r.first b && int_le a r.last))) ≡ (int_le r.first n && int_le n r.last)
    by r a b e f =
        ap (λ (z : ℤ). int_le r.first r.last && (int_le z b && (int_le r.first b && int_le z r.last))) e
        ∙ ap (λ (z : ℤ). int_le r.first r.last && (int_le n z && (int_le r.first z && int_le n r.last))) f
        ∙ one_inside r.first r.last n
