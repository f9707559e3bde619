-- The faults of paths in order, path by path, are all faults of the paths.
use Rattle.std.proofs.Common.{◌≡◌, ◌⊎◌, ℕ, zero, suc, ◌+◌, ◌<◌, ◌≤◌, Bool, true, false, cond, not, ◌==◌, List, [], ◌∷◌, ◌++◌, length, map, get_or, drop, refl, sym, ap, ◌∙◌, subst, inl, inr, arith, append_assoc, append-nil, length-append, Contains, IsPermutation, count_by, bytes_eq, is_lt, IsSortedBy}
use Rattle.proto_base.proofs.Common.{All-map, Contains-append_cases, Contains-append_left, Contains-append_right, Contains-permutation, Decides-eqb, IsPermutation-sym, IsPermutation-trans, IsStrictWeakOrder, bytes_eq-Decides, contains_cases, contains_head, drop_more, false≢true, length_permutation, nat_list_cmp_total, ranks_by, sorted_far, sum_by-IsPermutation, sum_by-append}
use Rattle.proto_base.specs.declared.fault.FaultKind.{FaultKind}
use Rattle.proto_base.specs.declared.fault.FaultKind.TheVariants.{BadPath, DoublePath, TooManyFiles}
use Rattle.proto_base.specs.Texts.{Path}
use Rattle.proto_files.specs.Common.{FaultAt, IsBefore, IsInPathOrder, IsPathFault, IsWorkspacePath, PathFaults, begins_with, is_workspace_path, path_cmp}
use Rattle.proto_files.proofs.Members.{All-member, Contains-from_member, Member, member_from_Contains, member_right}
use Rattle.proto_files.proofs.PathOrder.{before_at_most, before_from_sides, bytes_apart, count-cons, count_none, count_up_to, is_up_to, never_before_itself, not_up_to, sides}
use Rattle.proto_files.proofs.WorkspacePathTest.{is_path_from_test, test_from_is_path}
use Rattle.proto_all_faults.specs.Common.{AreFound, fault_if, faults_at, path_fault, path_faults_from}

-- ---- what a sort leaves

module _ {X : Type 0} (v : X → Path) where
  abbrev pub is_path_before : X → X → Bool
  is_path_before x y = is_lt (path_cmp (v x) (v y))

  ranks : IsStrictWeakOrder is_path_before
  ranks = ranks_by nat_list_cmp_total v

  in_order : (xs : List X) → ((i j : ℕ) (d : X) → i < j → j < length xs → IsBefore (v (get_or xs j d)) (v (get_or xs i d)) → ⊥) → IsInPathOrder (map v xs)
  in_order [] h = tt
  in_order (x ∷ xs) h = (
    All-map (λ (q : Path). IsBefore q (v x) → ⊥) v xs (λ k d l. h 0 (suc k) d (omega arith) (omega (arith, l))),
    in_order xs (λ i j d lt within. h (suc i) (suc j) d (omega (arith, lt)) (omega (arith, within))),
  )

  pub in_order_from_sort : (xs : List X) → IsSortedBy is_path_before xs → IsInPathOrder (map v xs)
  in_order_from_sort xs sorted = in_order xs (λ i j d lt within before. false≢true (sym (sorted_far is_path_before ranks xs sorted i j d (omega (arith, lt)) within) ∙ ap is_lt before))

-- ---- a turn of the loop

drop_map : {X : Type 0} (v : X → Path) (n : ℕ) (xs : List X) → map v (drop n xs) ≡ drop n (map v xs)
drop_map v zero xs = refl
drop_map v (suc n) [] = refl
drop_map v (suc n) (x ∷ xs) = drop_map v n xs

get_or_map : {X : Type 0} (v : X → Path) (xs : List X) (i : ℕ) (d : X) (e : Path) → i < length xs → get_or (map v xs) i e ≡ v (get_or xs i d)
get_or_map v [] i d e l = absurd (omega (arith, l))
get_or_map v (x ∷ xs) zero d e l = refl
get_or_map v (x ∷ xs) (suc i) d e l = get_or_map v xs i d e (omega (arith, l))

map_length : {X : Type 0} (v : X → Path) (xs : List X) → length (map v xs) ≡ length xs
map_length v [] = refl
map_length v (x ∷ xs) = ap suc (map_length v xs)

pub listed_turn : {X : Type 0} (v : X → Path) (xs : List X) (i : ℕ) (d : X) (rest : List X) (found next whole : List FaultAt) → i < length xs → rest ≡ drop (i + 1) xs
    → next ≡ found ++ faults_at i 4096 (v (get_or xs i d)) (map v rest) → found ++ path_faults_from i 4096 (drop i (map v xs)) ≡ whole → next ++ path_faults_from (i + 1) 4096 (drop (i + 1) (map v xs)) ≡ whole
unfolding path_faults_from
listed_turn v xs i d rest found next whole l left new before =
    let ps : List Path = map v xs in
    let within : i < length ps = omega (arith, l, map_length v xs) in
    let here : get_or ps i [] ≡ v (get_or xs i d) = get_or_map v xs i d [] l in
    let tail : map v rest ≡ drop (i + 1) ps = ap (map v) left ∙ drop_map v (i + 1) xs in
    let step : suc i ≡ i + 1 = omega arith in
    let split : drop i ps ≡ v (get_or xs i d) ∷ drop (i + 1) ps = drop_more ps i [] within ∙ ap (λ (p : Path). p ∷ drop (i + 1) ps) here in
    let more : path_faults_from i 4096 (drop i ps) ≡ faults_at i 4096 (v (get_or xs i d)) (drop (i + 1) ps) ++ path_faults_from (i + 1) 4096 (drop (i + 1) ps) =
    ap (path_faults_from i 4096) split ∙ ap (λ (n : ℕ). faults_at i 4096 (v (get_or xs i d)) (drop (i + 1) ps) ++ path_faults_from n 4096 (drop (i + 1) ps)) step in
    ap (λ (fs : List FaultAt). fs ++ path_faults_from (i + 1) 4096 (drop (i + 1) ps)) (new ∙ ap (λ (qs : List Path). found ++ faults_at i 4096 (v (get_or xs i d)) qs) tail)
    ∙ append_assoc found (faults_at i 4096 (v (get_or xs i d)) (drop (i + 1) ps)) (path_faults_from (i + 1) 4096 (drop (i + 1) ps))
    ∙ ap (λ (fs : List FaultAt). found ++ fs) (sym more)
    ∙ before

pub listed_end : (ps : List Path) (i : ℕ) (found whole : List FaultAt) → length ps ≤ i → found ++ path_faults_from i 4096 (drop i ps) ≡ whole → found ≡ whole
unfolding path_faults_from
listed_end ps i found whole l before = sym (append-nil found) ∙ ap (λ (qs : List Path). found ++ path_faults_from i 4096 qs) (sym (none ps i l)) ∙ before
  where
    none : (qs : List Path) (n : ℕ) → length qs ≤ n → drop n qs ≡ []
    none [] zero l = refl
    none [] (suc n) l = refl
    none (q ∷ qs) zero l = absurd (omega (arith, l))
    none (q ∷ qs) (suc n) l = none qs n (omega (arith, l))

-- ---- one path

from_if : (b : Bool) (kind : FaultKind) (p : Path) (x : FaultAt) → Contains (fault_if b kind p) x → (b ≡ true) × (path_fault kind p ≡ x)
from_if true kind p x c = (
  refl,
  elim (contains_cases (path_fault kind p) x [] c) [
    | inl e ↦ e
    | inr d ↦ absurd (omega (arith, d.1))
  ],
)
from_if false kind p x c = absurd (omega (arith, c.1))

to_if : (b : Bool) (kind : FaultKind) (p : Path) → b ≡ true → Contains (fault_if b kind p) (path_fault kind p)
to_if b kind p e = subst (λ (t : Bool). Contains (fault_if t kind p) (path_fault kind p)) (sym e) (contains_head (path_fault kind p) [])

module _ (place limit : ℕ) (p : Path) (ps : List Path) where
  abbrev bad : List FaultAt
  bad = fault_if (not (is_workspace_path p)) BadPath p

  abbrev double : List FaultAt
  double = fault_if (begins_with ps p) DoublePath p

  abbrev many : List FaultAt
  many = fault_if (place == limit) TooManyFiles p

  bad_here : is_workspace_path p ≡ false → Contains (faults_at place limit p ps) (path_fault BadPath p)
  bad_here e = Contains-append_left bad (double ++ many) (path_fault BadPath p) (to_if (not (is_workspace_path p)) BadPath p (ap not e))

  double_here : begins_with ps p ≡ true → Contains (faults_at place limit p ps) (path_fault DoublePath p)
  double_here e = Contains-append_right bad (double ++ many) (path_fault DoublePath p) (Contains-append_left double many (path_fault DoublePath p) (to_if (begins_with ps p) DoublePath p e))

  many_here : place ≡ limit → Contains (faults_at place limit p ps) (path_fault TooManyFiles p)
  many_here e = Contains-append_right bad (double ++ many) (path_fault TooManyFiles p) (Contains-append_right double many (path_fault TooManyFiles p) (to_if (place == limit) TooManyFiles p ((Decides-eqb place limit).1 e)))

-- ---- lists in order

-- the path behind one in order is it, or each path behind comes after it
next_apart : (p : Path) (ps : List Path) → IsInPathOrder (p ∷ ps) → begins_with ps p ≡ false → (q : Path) → Member q ps → IsBefore p q
next_apart p [] o b q m = absurd m
next_apart p (n ∷ ps) o b q m =
    let first : IsBefore p n = before_from_sides p n (All-member (λ r. IsBefore r p → ⊥) (n ∷ ps) n o.0 (inl refl)) (λ e. false≢true (sym b ∙ (bytes_eq-Decides n p).1 (sym e))) in
    elim m [
      | inl e ↦ subst (λ (x : Path). IsBefore p x) e first
      | inr m' ↦ before_at_most p n q first (All-member (λ r. IsBefore r n → ⊥) ps q o.1.0 m')
    ]

begins_counted : (ps : List Path) (p : Path) → begins_with ps p ≡ true → 0 < count_by (bytes_eq p) ps
begins_counted [] p b = absurd (false≢true b)
begins_counted (n ∷ ps) p b =
    let is : n ≡ p = (bytes_eq-Decides n p).0 b in
    omega (arith, count-cons (bytes_eq p) n ps ∙ ap (λ c. cond c 1 0 + count_by (bytes_eq p) ps) ((bytes_eq-Decides p n).1 (sym is)))

at_most_one : (b : Bool) → cond b 1 0 ≤ 1
at_most_one true = omega arith
at_most_one false = omega arith

-- of paths in order no more are up to a path before the one at place k
few_up_to : (ps : List Path) (k : ℕ) (q p : Path) → IsInPathOrder ps → k < length ps → get_or ps k q ≡ q → IsBefore p q → count_by (is_up_to p) ps ≤ k
few_up_to [] k q p o l at b = absurd (omega (arith, l))
few_up_to (r ∷ ps) zero q p o l at b =
    let none = count_none (is_up_to p) (r ∷ ps) (λ s m. not_up_to p s (after s m)) in omega (arith, none)
  where
    first : IsBefore p r
    first = subst (λ (x : Path). IsBefore p x) (sym at) b

    after : (s : Path) → Member s (r ∷ ps) → IsBefore p s
    after s (inl e) = subst (λ (x : Path). IsBefore p x) e first
    after s (inr m) = before_at_most p r s first (All-member (λ t. IsBefore t r → ⊥) ps s o.0 m)
few_up_to (r ∷ ps) (suc k) q p o l at b =
    omega (arith, count-cons (is_up_to p) r ps, at_most_one (is_up_to p r), few_up_to ps k q p o.1 (omega (arith, l)) at b)

-- the same paths in order have the same one at a place
same_at : (us vs : List Path) → IsPermutation us vs → IsInPathOrder us → IsInPathOrder vs → (k : ℕ) → k < length us → k < length vs → (p q : Path) → get_or us k p ≡ p → get_or vs k q ≡ q → p ≡ q
same_at us vs same ou ov k lu lv p q pu qv = elim (sides p q) [
  | inl before ↦ absurd (omega (arith, count_up_to us k p ou lu pu, few_up_to vs k q p ov lv qv before, sum_by-IsPermutation (λ (r : Path). cond (is_up_to p r) 1 0) us vs same))
  | inr (inl e) ↦ e
  | inr (inr after) ↦ absurd (omega (arith, count_up_to vs k q ov lv qv, few_up_to us k p q ou lu pu after, sum_by-IsPermutation (λ (r : Path). cond (is_up_to q r) 1 0) us vs same))
]

-- ---- all paths

module _ (limit : ℕ) (given all : List Path) (same : IsPermutation given all) (order : IsInPathOrder all) where
  counted : (t : Path → Bool) → count_by t given ≡ count_by t all
  counted t = sym (sum_by-IsPermutation (λ (q : Path). cond (t q) 1 0) given all same)

  split_count : (t : Path → Bool) (done ps : List Path) → all ≡ done ++ ps → count_by t given ≡ count_by t done + count_by t ps
  split_count t done ps e = counted t ∙ ap (count_by t) e ∙ sum_by-append (λ (q : Path). cond (t q) 1 0) done ps

  at_middle : (done : List Path) (p : Path) (ps : List Path) (d : Path) → get_or (done ++ p ∷ ps) (length done) d ≡ p
  at_middle [] p ps d = refl
  at_middle (x ∷ done) p ps d = at_middle done p ps d

  module _ (done ps : List Path) (p : Path) (e : all ≡ done ++ p ∷ ps) where
    there : Contains given p
    there = Contains-permutation all given p (IsPermutation-sym given all same) (Contains-from_member p all (subst (λ (xs : List Path). Member p xs) (sym e) (member_right p done (p ∷ ps) (inl refl))))

    bad_sound : not (is_workspace_path p) ≡ true → PathFaults limit given (path_fault BadPath p)
    bad_sound h = (refl, (there, λ w. (let t = test_from_is_path p w in absurd (false≢true (sym (ap not t) ∙ h)))))

    double_sound : begins_with ps p ≡ true → PathFaults limit given (path_fault DoublePath p)
    double_sound h = (refl, omega (arith, split_count (bytes_eq p) done (p ∷ ps) e, count-cons (bytes_eq p) p ps ∙ ap (λ c. cond c 1 0 + count_by (bytes_eq p) ps) ((bytes_eq-Decides p p).1 refl), begins_counted ps p h))

    many_sound : length done ≡ limit → PathFaults limit given (path_fault TooManyFiles p)
    many_sound h =
        let at : get_or all limit p ≡ p = ap (λ (xs : List Path). get_or xs limit p) e ∙ ap (λ (k : ℕ). get_or (done ++ p ∷ ps) k p) (sym h) ∙ at_middle done p ps p in
        let within : limit < length all = omega (arith, h, ap length e, length-append done (p ∷ ps)) in
        (refl, record { ordered = all; same_paths = same; in_order = order; is_place = within; is_there = at })

    here_sound : (x : FaultAt) → Contains (faults_at (length done) limit p ps) x → PathFaults limit given x
    here_sound x c = elim (Contains-append_cases (bad (length done) limit p ps) (double (length done) limit p ps ++ many (length done) limit p ps) x c) [
      | inl h ↦ (let r = from_if (not (is_workspace_path p)) BadPath p x h in subst (PathFaults limit given) r.1 (bad_sound r.0))
      | inr k ↦ elim (Contains-append_cases (double (length done) limit p ps) (many (length done) limit p ps) x k) [
        | inl h ↦ (let r = from_if (begins_with ps p) DoublePath p x h in subst (PathFaults limit given) r.1 (double_sound r.0))
        | inr h ↦ (let r = from_if (length done == limit) TooManyFiles p x h in subst (PathFaults limit given) r.1 (many_sound ((Decides-eqb (length done) limit).0 r.0)))
      ]
    ]

  sound : (done ps : List Path) → all ≡ done ++ ps → (x : FaultAt) → Contains (path_faults_from (length done) limit ps) x → PathFaults limit given x
  unfolding path_faults_from
  sound done [] e x c = absurd (omega (arith, c.1))
  sound done (p ∷ ps) e x c = elim (Contains-append_cases (faults_at (length done) limit p ps) (path_faults_from (suc (length done)) limit ps) x c) [
    | inl h ↦ here_sound done ps p e x h
    | inr h ↦
        let long : suc (length done) ≡ length (done ++ p ∷ []) = omega (arith, length-append done (p ∷ [])) in
        sound (done ++ p ∷ []) ps (e ∙ sym (append_assoc done (p ∷ []) ps)) x (subst (λ (n : ℕ). Contains (path_faults_from n limit ps) x) long h)
  ]

  -- ---- each is listed

  bad_there : (place : ℕ) (ps : List Path) (q : Path) → Member q ps → is_workspace_path q ≡ false → Contains (path_faults_from place limit ps) (path_fault BadPath q)
  unfolding path_faults_from
  bad_there place [] q m e = absurd m
  bad_there place (p ∷ ps) q (inl is) e =
      Contains-append_left (faults_at place limit p ps) (path_faults_from (suc place) limit ps) (path_fault BadPath q)
      (subst (λ (r : Path). Contains (faults_at place limit p ps) (path_fault BadPath r)) is (bad_here place limit p ps (ap is_workspace_path is ∙ e)))
  bad_there place (p ∷ ps) q (inr m) e =
      Contains-append_right (faults_at place limit p ps) (path_faults_from (suc place) limit ps) (path_fault BadPath q) (bad_there (suc place) ps q m e)

  double_there : (place : ℕ) (ps : List Path) (q : Path) → IsInPathOrder ps → 1 < count_by (bytes_eq q) ps → Contains (path_faults_from place limit ps) (path_fault DoublePath q)
  unfolding path_faults_from
  double_there place [] q o h = absurd (omega (arith, h))
  double_there place (p ∷ ps) q o h = elim (cases (bytes_eq q p) refl) [
    | inl is ↦
        Contains-append_left (faults_at place limit p ps) (path_faults_from (suc place) limit ps) (path_fault DoublePath q)
        (subst (λ (r : Path). Contains (faults_at place limit p ps) (path_fault DoublePath r)) (sym ((bytes_eq-Decides q p).0 is.0)) (double_here place limit p ps is.1))
    | inr rest ↦ Contains-append_right (faults_at place limit p ps) (path_faults_from (suc place) limit ps) (path_fault DoublePath q) (double_there (suc place) ps q o.1 rest)
  ]
    where
      again : bytes_eq q p ≡ true → (b : Bool) → begins_with ps p ≡ b → begins_with ps p ≡ true
      again e true t = t
      again e false t =
          let is : q ≡ p = (bytes_eq-Decides q p).0 e in
          let none : count_by (bytes_eq q) ps ≡ 0 = count_none (bytes_eq q) ps (λ r m. bytes_apart q r (λ (same : q ≡ r). never_before_itself p (subst (λ (z : Path). IsBefore p z) (sym same ∙ is) (next_apart p ps o t r m)))) in
          absurd (omega (arith, h, count-cons (bytes_eq q) p ps, at_most_one (bytes_eq q p), none))

      cases : (b : Bool) → bytes_eq q p ≡ b → ((bytes_eq q p ≡ true) × (begins_with ps p ≡ true)) ⊎ (1 < count_by (bytes_eq q) ps)
      cases true e = inl (e, again e (begins_with ps p) refl)
      cases false e = inr (omega (arith, h, count-cons (bytes_eq q) p ps ∙ ap (λ c. cond c 1 0 + count_by (bytes_eq q) ps) e))

  many_there : (place : ℕ) (ps : List Path) (k : ℕ) (q : Path) → k < length ps → get_or ps k q ≡ q → place + k ≡ limit → Contains (path_faults_from place limit ps) (path_fault TooManyFiles q)
  unfolding path_faults_from
  many_there place [] k q l at e = absurd (omega (arith, l))
  many_there place (p ∷ ps) zero q l at e =
      Contains-append_left (faults_at place limit p ps) (path_faults_from (suc place) limit ps) (path_fault TooManyFiles q)
      (subst (λ (r : Path). Contains (faults_at place limit p ps) (path_fault TooManyFiles r)) at (many_here place limit p ps (omega (arith, e))))
  many_there place (p ∷ ps) (suc k) q l at e =
      Contains-append_right (faults_at place limit p ps) (path_faults_from (suc place) limit ps) (path_fault TooManyFiles q) (many_there (suc place) ps k q (omega (arith, l)) at (omega (arith, e)))

  not_path : (q : Path) → (IsWorkspacePath q → ⊥) → (b : Bool) → is_workspace_path q ≡ b → is_workspace_path q ≡ false
  not_path q none true e = absurd (none (is_path_from_test q e))
  not_path q none false e = e

  whole : (kind : FaultKind) (q : Path) → IsPathFault limit given kind q → Contains (path_faults_from 0 limit all) (path_fault kind q)
  whole BadPath q h = bad_there 0 all q (member_from_Contains q all (Contains-permutation given all q same h.0)) (not_path q h.1 (is_workspace_path q) refl)
  whole DoublePath q h = double_there 0 all q order (omega (arith, h, counted (bytes_eq q)))
  whole TooManyFiles q h =
      let place = h.is_place in
      let within : limit < length all = omega (arith, place, length_permutation given h.ordered h.same_paths, length_permutation given all same) in
      let one : get_or all limit q ≡ q =
      same_at all h.ordered (again h.ordered h.same_paths) order h.in_order limit within h.is_place (get_or all limit q) q (itself all limit q within) h.is_there in
      many_there 0 all limit q within one (omega arith)
    where
      again : (ordered : List Path) → IsPermutation given ordered → IsPermutation all ordered
      again ordered h = IsPermutation-trans all given ordered (IsPermutation-sym given all same) h

      itself : (ps : List Path) (k : ℕ) (d : Path) → k < length ps → get_or ps k (get_or ps k d) ≡ get_or ps k d
      itself [] k d l = absurd (omega (arith, l))
      itself (r ∷ ps) zero d l = refl
      itself (r ∷ ps) (suc k) d l = itself ps k d (omega (arith, l))
  whole _ q h = absurd h

  as_fault : (x : FaultAt) → x.offset ≡ 0 → path_fault x.kind x.path ≡ x
  as_fault x e = λ i. record { path = x.path; offset = sym e i; kind = x.kind }

  pub paths_found : AreFound (PathFaults limit given) (path_faults_from 0 limit all)
  paths_found = record {
    sound = sound [] all refl;
    whole = λ x h. subst (Contains (path_faults_from 0 limit all)) (as_fault x h.0) (whole x.kind x.path h.1);
  }
