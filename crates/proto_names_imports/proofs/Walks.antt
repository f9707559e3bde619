-- Walks that go on by one file: what is marked of what is reached (for the crates above).
use Rattle.std.proofs.Common.{◌≡◌, ◌≢◌, ◌⊎◌, ◌↔◌, ℕ, zero, suc, ◌+◌, ◌<◌, Bool, true, false, cond, List, [], ◌∷◌, ◌++◌, length, get_or, map, filter, take, refl, sym, ◌∙◌, ap, subst, inl, inr, arith, length-append, replicate, slice_set, Contains, true≢false, get_or-set_same, get_or-set_other, length-set}
use Rattle.proto_base.proofs.Common.{cases_Bool, cases_eq, both_ways, Contains-append_left, Contains-append_right, Contains-append_cases, contains_head, contains_cases}
use Rattle.std.proofs.lemmas.List.{append-nil, map-append}
use Rattle.std.proofs.lemmas.List.Elements.{filter_more}
use Rattle.proto_names_imports.specs.Walks.{Walks, stays, goes, unseen, IsMarked, Visits}

pub last_in : {X : Type 0} (xs : List X) (x : X) → Contains (xs ++ x ∷ []) x
last_in xs x = Contains-append_right xs (x ∷ []) x (contains_head x [])

pub one_of : {X : Type 0} (x y : X) → Contains (x ∷ []) y → x ≡ y
one_of x y c = elim (contains_cases x y [] c) [ inl e ↦ e | inr n ↦ absurd (omega (arith, n.1)) ]

-- where none is visited, all is as it was
pub visits_none : (seen : List Bool) (todo : List ℕ) → Visits [] seen todo seen todo
visits_none seen todo = record {
  sized = refl;
  kept = λ g m. m;
  marked = λ g c. absurd (omega (arith, c.1));
  only = λ g m. inl m;
  waits = λ g m. inl m;
  stay = λ g c. c;
  from = λ g c. inl c;
  fresh = λ g c. inl c;
  work = omega arith;
}

-- what is marked already is passed over
pub visits_old : (done : List ℕ) (x : ℕ) (seen : List Bool) (todo : List ℕ) (seen' : List Bool) (todo' : List ℕ) → Visits done seen todo seen' todo' → IsMarked seen' x → Visits (done ++ x ∷ []) seen todo seen' todo'
visits_old done x seen todo seen' todo' v h = record {
  sized = v.sized;
  kept = v.kept;
  marked = λ g c. elim (Contains-append_cases done (x ∷ []) g c) [
    | inl a ↦ v.marked g a
    | inr b ↦ elim (contains_cases x g [] b) [ inl e ↦ subst (IsMarked seen') e h | inr n ↦ absurd (omega (arith, n.1)) ]
  ];
  only = λ g m. elim (v.only g m) [ inl a ↦ inl a | inr c ↦ inr (Contains-append_left done (x ∷ []) g c) ];
  waits = v.waits;
  stay = v.stay;
  from = v.from;
  fresh = v.fresh;
  work = v.work;
}

mark_less : (seen : List Bool) (x : ℕ) → x < length seen → get_or seen x false ≡ false → unseen (slice_set seen x true) + 1 ≡ unseen seen
mark_less [] x l h = absurd (omega (arith, l))
mark_less (true ∷ bs) zero l h = absurd (true≢false h)
mark_less (false ∷ bs) zero l h = omega arith
mark_less (b ∷ bs) (suc x) l h =
    let r = mark_less bs x (omega (arith, l)) h in
    omega (arith, r)

-- what isn't is marked, and waits
pub visits_new : (done : List ℕ) (x : ℕ) (seen : List Bool) (todo : List ℕ) (seen' : List Bool) (todo' : List ℕ) → Visits done seen todo seen' todo' → x < length seen' → get_or seen' x false ≡ false → Visits (done ++ x ∷ []) seen todo (slice_set seen' x true) (todo' ++ x ∷ [])
visits_new done x seen todo seen' todo' v l h = record {
  sized = length-set seen' x true ∙ v.sized;
  kept = λ g m. more g (v.kept g m);
  marked = λ g c. elim (Contains-append_cases done (x ∷ []) g c) [
    | inl a ↦ more g (v.marked g a)
    | inr b ↦ elim (contains_cases x g [] b) [ inl e ↦ subst (IsMarked (slice_set seen' x true)) e here | inr n ↦ absurd (omega (arith, n.1)) ]
  ];
  only = λ g m. elim (cases_eq g x) [
    | inl e ↦ inr (Contains-append_right done (x ∷ []) g (subst (λ z. Contains (x ∷ []) z) (sym e) (contains_head x [])))
    | inr ne ↦ elim (v.only g (less g ne m)) [ inl a ↦ inl a | inr c ↦ inr (Contains-append_left done (x ∷ []) g c) ]
  ];
  waits = λ g m. elim (cases_eq g x) [
    | inl e ↦ inr (Contains-append_right todo' (x ∷ []) g (subst (λ z. Contains (x ∷ []) z) (sym e) (contains_head x [])))
    | inr ne ↦ elim (v.waits g (less g ne m)) [ inl a ↦ inl a | inr c ↦ inr (Contains-append_left todo' (x ∷ []) g c) ]
  ];
  stay = λ g c. Contains-append_left todo' (x ∷ []) g (v.stay g c);
  from = λ g c. elim (Contains-append_cases todo' (x ∷ []) g c) [
    | inl a ↦ elim (v.from g a) [ inl q ↦ inl q | inr q ↦ inr (more g q) ]
    | inr b ↦ elim (contains_cases x g [] b) [ inl e ↦ inr (subst (IsMarked (slice_set seen' x true)) e here) | inr n ↦ absurd (omega (arith, n.1)) ]
  ];
  fresh = λ g c. elim (Contains-append_cases todo' (x ∷ []) g c) [
    | inl a ↦ v.fresh g a
    | inr b ↦ inr (subst (λ z. get_or seen z false ≡ false) (one_of x g b) was)
  ];
  work = omega (arith, v.work, mark_less seen' x l h, length-append todo' (x ∷ []));
}
  where
    -- what is not marked now was not before
    was : get_or seen x false ≡ false
    was = elim (cases_Bool (get_or seen x false)) [ inl m ↦ absurd (both_ways (get_or seen' x false) h (v.kept x m)) | inr m ↦ m ]

    here : IsMarked (slice_set seen' x true) x
    here = get_or-set_same seen' x true false l

    more : (g : ℕ) → IsMarked seen' g → IsMarked (slice_set seen' x true) g
    more g m = elim (cases_eq g x) [
      | inl e ↦ ap (λ z. get_or (slice_set seen' x true) z false) e ∙ get_or-set_same seen' x true false l
      | inr ne ↦ get_or-set_other seen' x g true false ne ∙ m
    ]

    less : (g : ℕ) → g ≢ x → IsMarked (slice_set seen' x true) g → IsMarked seen' g
    less g ne m = sym (get_or-set_other seen' x g true false ne) ∙ m

-- what is marked is reached from one of the first; what is marked waits, or its list is marked; what waits is marked
pub record IsPart (next : List (List ℕ)) (firsts : List ℕ) (seen : List Bool) (todo : List ℕ) : Type 0 where
  pub sized : length seen ≡ length next
  pub sound : (g : ℕ) → IsMarked seen g → (s : ℕ) × Contains firsts s × Walks next s g
  pub begun : (s : ℕ) → Contains firsts s → IsMarked seen s
  pub closed : (f : ℕ) → IsMarked seen f → Contains todo f ⊎ ((g : ℕ) → Contains (get_or next f []) g → IsMarked seen g)
  pub waiting : (f : ℕ) → Contains todo f → IsMarked seen f

pub walk_on : (next : List (List ℕ)) {f g h : ℕ} → Walks next f g → Contains (get_or next g []) h → Walks next f h
walk_on next stays c = goes _ c stays
walk_on next (goes i d w) c = goes i d (walk_on next w c)

pub part_more : (next : List (List ℕ)) (firsts : List ℕ) (f : ℕ) (seen : List Bool) (todo : List ℕ) (seen' : List Bool) (todo' : List ℕ) → IsPart next firsts seen (todo ++ f ∷ []) → Visits (get_or next f []) seen todo seen' todo' → IsPart next firsts seen' todo'
part_more next firsts f seen todo seen' todo' p v = record {
  sized = v.sized ∙ p.sized;
  sound = λ g m. elim (v.only g m) [
    | inl a ↦ p.sound g a
    | inr c ↦
        let r = p.sound f (p.waiting f (last_in todo f)) in
        (r.0, r.1, walk_on next r.2 c)
  ];
  begun = λ s c. v.kept s (p.begun s c);
  closed = λ x m. elim (v.waits x m) [
    | inr c ↦ inl c
    | inl old ↦ elim (p.closed x old) [
      | inl w ↦ elim (Contains-append_cases todo (f ∷ []) x w) [
        | inl a ↦ inl (v.stay x a)
        | inr b ↦ inr (λ g c. v.marked g (subst (λ z. Contains (get_or next z []) g) (sym (one_of f x b)) c))
      ]
      | inr all ↦ inr (λ g c. v.kept g (all g c))
    ]
  ];
  waiting = λ x c. elim (v.from x c) [ inl a ↦ v.kept x (p.waiting x (Contains-append_left todo (f ∷ []) x a)) | inr m ↦ m ];
}

-- when nothing waits, what is marked is what is reached
pub part_whole : (next : List (List ℕ)) (firsts : List ℕ) (seen : List Bool) → IsPart next firsts seen [] → (g : ℕ) → IsMarked seen g ↔ ((s : ℕ) × Contains firsts s × Walks next s g)
part_whole next firsts seen p g = (p.sound g, λ r. go r.2 (p.begun r.0 r.1))
  where
    go : {f : ℕ} → Walks next f g → IsMarked seen f → IsMarked seen g
    go stays m = m
    go {f} (goes h c w) m = elim (p.closed f m) [ inl n ↦ absurd (omega (arith, n.1)) | inr all ↦ go w (all h c) ]

-- of a walk from one
pub part_whole_one : (next : List (List ℕ)) (start : ℕ) (seen : List Bool) → IsPart next (start ∷ []) seen [] → (g : ℕ) → IsMarked seen g ↔ Walks next start g
part_whole_one next start seen p g =
    let whole = part_whole next (start ∷ []) seen p g in (
      λ m. (let r = whole.0 m in subst (λ s. Walks next s g) (sym (one_of start r.0 r.1)) r.2),
      λ w. whole.1 (start, contains_head start [], w),
    )

-- the first ones are visited
pub part_firsts : (next : List (List ℕ)) (firsts : List ℕ) (none seen : List Bool) (todo : List ℕ) → length none ≡ length next → ((g : ℕ) → get_or none g false ≡ false) → Visits firsts none [] seen todo → IsPart next firsts seen todo
part_firsts next firsts none seen todo n unmarked v = record {
  sized = v.sized ∙ n;
  sound = λ g m. elim (v.only g m) [ inl a ↦ absurd (both_ways (get_or none g false) (unmarked g) a) | inr c ↦ (g, c, stays) ];
  begun = v.marked;
  closed = λ g m. elim (v.waits g m) [ inl a ↦ absurd (both_ways (get_or none g false) (unmarked g) a) | inr c ↦ inl c ];
  waiting = λ g c. elim (v.from g c) [ inl n ↦ absurd (omega (arith, n.1)) | inr m ↦ m ];
}

-- the start
pub part_first : (next : List (List ℕ)) (start : ℕ) (none : List Bool) → length none ≡ length next → start < length none → ((g : ℕ) → get_or none g false ≡ false) → IsPart next (start ∷ []) (slice_set none start true) (start ∷ [])
part_first next start none n l unmarked =
    part_firsts next (start ∷ []) none (slice_set none start true) (start ∷ []) n unmarked (visits_new [] start none [] none [] (visits_none none []) l (unmarked start))

-- one number more
pub visit_one : (done : List ℕ) (x : ℕ) (seen : List Bool) (todo : List ℕ) (seen1 : List Bool) (todo1 : List ℕ) (seen2 : List Bool) (todo2 : List ℕ) → Visits done seen todo seen1 todo1 → x < length seen1
    → (IsMarked seen1 x → (seen2 ≡ seen1) × (todo2 ≡ todo1)) → (get_or seen1 x false ≡ false → (seen2 ≡ slice_set seen1 x true) × (todo2 ≡ todo1 ++ x ∷ [])) → Visits (done ++ x ∷ []) seen todo seen2 todo2
visit_one done x seen todo seen1 todo1 seen2 todo2 v within old new = elim (cases_Bool (get_or seen1 x false)) [
  | inl m ↦
      let same = old m in
      subst (λ z. Visits (done ++ x ∷ []) seen todo z todo2) (sym same.0) (subst (λ z. Visits (done ++ x ∷ []) seen todo seen1 z) (sym same.1) (visits_old done x seen todo seen1 todo1 v m))
  | inr m ↦
      let same = new m in
      subst (λ z. Visits (done ++ x ∷ []) seen todo z todo2) (sym same.0)
      (subst (λ z. Visits (done ++ x ∷ []) seen todo (slice_set seen1 x true) z) (sym same.1) (visits_new done x seen todo seen1 todo1 v within m))
]

-- the numbers of those that pass, with one element more
pub passing_more : {X : Type 0} (p : X → Bool) (f : X → ℕ) (xs : List X) (i : ℕ) (d : X) → i < length xs → p (get_or xs i d) ≡ true → map f (filter p (take (i + 1) xs)) ≡ map f (filter p (take i xs)) ++ f (get_or xs i d) ∷ []
passing_more p f xs i d l passes =
    ap (map f) (filter_more p xs i d l ∙ ap (λ b. filter p (take i xs) ++ cond b (get_or xs i d ∷ []) []) passes)
    ∙ map-append f (filter p (take i xs)) (get_or xs i d ∷ [])

pub passing_same : {X : Type 0} (p : X → Bool) (f : X → ℕ) (xs : List X) (i : ℕ) (d : X) → i < length xs → p (get_or xs i d) ≡ false → map f (filter p (take (i + 1) xs)) ≡ map f (filter p (take i xs))
passing_same p f xs i d l fails =
    ap (map f) (filter_more p xs i d l ∙ ap (λ b. filter p (take i xs) ++ cond b (get_or xs i d ∷ []) []) fails ∙ append-nil (filter p (take i xs)))

pub unmarked_none : (n g : ℕ) → get_or (replicate n false) g false ≡ false
unmarked_none zero g = refl
unmarked_none (suc n) zero = refl
unmarked_none (suc n) (suc g) = unmarked_none n g

pub marked_within : (seen : List Bool) (g : ℕ) → IsMarked seen g → g < length seen
marked_within [] g m = absurd (true≢false (sym m))
marked_within (b ∷ seen) zero m = omega arith
marked_within (b ∷ seen) (suc g) m = let r = marked_within seen g m in omega (arith, r)

pub no_elements : {X : Type 0} (xs : List X) → length xs ≡ 0 → xs ≡ []
no_elements [] e = refl
no_elements (x ∷ xs) e = absurd (omega (arith, e))
