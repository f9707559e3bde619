-- The first clash of names, where packages are declared before all else.
use Rattle.std.proofs.Common.{◌≡◌, ◌≢◌, ◌⊎◌, ℕ, zero, suc, ◌+◌, ◌<◌, ◌≤◌, Bool, true, List, [], ◌∷◌, ◌++◌, length, get_or, take, refl, sym, ◌∙◌, ap, subst, inl, inr, arith, length-append, not, AllPairs, Contains, filter, get_or-take, length-take-le, get_or-append-add, length-take}
use Rattle.proto_base.proofs.Common.{cases_Bool, cases_lt, cond-true, cond-false, get_or_default, Contains-append_cases, contains_filter, from_filter}
use Rattle.proto_names_rules.specs.declared.kind.Kind.{Kind}
use Rattle.proto_names_rules.specs.declared.kind.Kind.TheVariants.{Package}
use Rattle.proto_names_rules.proofs.Common.{is_package, Fault, fault, FaultIsBefore, IsLeast, get_front, package_from, package_or}
use Rattle.proto_names_table.specs.Common.{Named, ClashFault, earlier, of_package, AreNamesApart, Clashes, packages_in, others_in}
use Rattle.proto_names_table.proofs.Naming.{contains_at, IsOrdered}

-- one element of a list, and a later one
abbrev Follow : {X : Type 0} → List X → X → X → Type 0
Follow {X} xs x y = (i j : ℕ) × (i < j) × (j < length xs) × ((d : X) → (get_or xs i d ≡ x) × (get_or xs j d ≡ y))

follow_later : {X : Type 0} (z : X) (xs : List X) (x y : X) → Follow xs x y → Follow (z ∷ xs) x y
follow_later z xs x y f = (suc f.0, suc f.1, omega (arith, f.2), omega (arith, f.3), λ d. f.4 d)

follow_first : {X : Type 0} (x : X) (xs : List X) (y : X) → Contains xs y → Follow (x ∷ xs) x y
follow_first x xs y c = (0, suc c.0, omega arith, omega (arith, c.1), λ d. (refl, get_or_default xs c.0 d y c.1 ∙ c.2))

follow_kept : {X : Type 0} (p : X → Bool) (xs : List X) (i j : ℕ) (d : X) → i < j → j < length xs → p (get_or xs i d) ≡ true → p (get_or xs j d) ≡ true → Follow (filter p xs) (get_or xs i d) (get_or xs j d)
follow_kept p [] i j d l lj pi pj = absurd (omega (arith, lj))
follow_kept p (x ∷ xs) zero zero d l lj pi pj = absurd (omega (arith, l))
follow_kept p (x ∷ xs) (suc i) zero d l lj pi pj = absurd (omega (arith, l))
follow_kept p (x ∷ xs) zero (suc j) d l lj pi pj =
    subst (λ z. Follow z x (get_or xs j d)) (sym (cond-true (p x) (x ∷ filter p xs) (filter p xs) pi))
    (follow_first x (filter p xs) (get_or xs j d) (contains_filter p xs (get_or xs j d) (contains_at xs j d (omega (arith, lj))) pj))
follow_kept p (x ∷ xs) (suc i) (suc j) d l lj pi pj =
    let r = follow_kept p xs i j d (omega (arith, l)) (omega (arith, lj)) pi pj in
    elim (cases_Bool (p x)) [
      | inl t ↦ subst (λ z. Follow z (get_or xs i d) (get_or xs j d)) (sym (cond-true (p x) (x ∷ filter p xs) (filter p xs) t)) (follow_later x (filter p xs) (get_or xs i d) (get_or xs j d) r)
      | inr f ↦ subst (λ z. Follow z (get_or xs i d) (get_or xs j d)) (sym (cond-false (p x) (x ∷ filter p xs) (filter p xs) f)) r
    ]

follow_right : {X : Type 0} (xs ys : List X) (x y : X) → Follow ys x y → Follow (xs ++ ys) x y
follow_right xs ys x y f =
    let size = length-append xs ys in
    (length xs + f.0, length xs + f.1, omega (arith, f.2), omega (arith, f.3, size), λ d. (get_or-append-add xs ys f.0 d ∙ (f.4 d).0, get_or-append-add xs ys f.1 d ∙ (f.4 d).1))

follow_across : {X : Type 0} (xs ys : List X) (x y : X) → Contains xs x → Contains ys y → Follow (xs ++ ys) x y
follow_across xs ys x y cx cy =
    let size = length-append xs ys in
    (cx.0, length xs + cy.0, omega (arith, cx.1), omega (arith, cy.1, size), λ d. (get_front xs ys cx.0 d cx.1 ∙ get_or_default xs cx.0 d x cx.1 ∙ cx.2, get_or-append-add xs ys cy.0 d ∙ get_or_default ys cy.0 d y cy.1 ∙ cy.2))

pair_apart : (ds : List Named) (x y : Named) → AreNamesApart ds → Follow ds x y → x.name ≡ y.name → (x.kind ≡ Package) × (y.kind ≡ Package)
pair_apart ds x y apart f e =
    let n = f.4 x in
    let r = apart f.0 f.1 x f.2 f.3 (ap (λ z. z.name) n.0 ∙ e ∙ sym (ap (λ z. z.name) n.1)) in
    (ap (λ z. z.kind) (sym n.0) ∙ r.0, ap (λ z. z.kind) (sym n.1) ∙ r.1)

pub is_other : (k : Kind) → k ≢ Package → not (is_package k) ≡ true
is_other k ne = elim (cases_Bool (is_package k)) [ inl h ↦ absurd (ne (package_from k h)) | inr h ↦ ap not h ]

-- ---- all declarations, and those held when the one at a place is declared: packages, and what stands before

abbrev pub held_at : List Named → ℕ → List Named
held_at all p = packages_in all ++ others_in (take p all)

length_take : (all : List Named) (p j : ℕ) → j < p → j < length all → j < length (take p all)
length_take all p j l lj = elim (cases_lt (length all) p) [
  | inl a ↦ let r = length-take p all in omega (arith, r, a, lj)
  | inr b ↦ let r = length-take-le p all b in omega (arith, r, l)
]

-- no declaration that stands before clashes
before_clean : (all : List Named) (p i j : ℕ) (d : Named) → AreNamesApart (held_at all p) → j < p → j < length all → (get_or all j d).kind ≢ Package
    → (i < j) ⊎ ((i < length all) × ((get_or all i d).kind ≡ Package)) → (get_or all i d).name ≡ (get_or all j d).name → ⊥
before_clean all p i j d apart lp lj none where_is same =
    let lt = length_take all p j lp lj in
    let tj : get_or (take p all) j d ≡ get_or all j d = get_or-take p all j d lp in
    let held : Contains (others_in (take p all)) (get_or all j d) = subst (Contains (others_in (take p all))) tj (contains_filter (λ x. not (is_package x.kind)) (take p all) (get_or (take p all) j d) (contains_at (take p all) j d lt) (ap (λ z. not (is_package z.kind)) tj ∙ is_other (get_or all j d).kind none)) in
    elim (package_or (get_or all i d).kind) [
      | inl e ↦
          let li : i < length all = elim where_is [ inl a ↦ omega (arith, a, lj) | inr b ↦ b.0 ] in
          let front : Contains (packages_in all) (get_or all i d) = contains_filter (λ x. is_package x.kind) all (get_or all i d) (contains_at all i d li) (ap is_package e) in
          none (pair_apart (held_at all p) (get_or all i d) (get_or all j d) apart (follow_across (packages_in all) (others_in (take p all)) (get_or all i d) (get_or all j d) front held) same).1
      | inr ne ↦ elim where_is [
        | inr b ↦ ne b.1
        | inl a ↦
            let ti : get_or (take p all) i d ≡ get_or all i d = get_or-take p all i d (omega (arith, a, lp)) in
            let f = follow_kept (λ x. not (is_package x.kind)) (take p all) i j d a lt (ap (λ z. not (is_package z.kind)) ti ∙ is_other (get_or all i d).kind ne) (ap (λ z. not (is_package z.kind)) tj ∙ is_other (get_or all j d).kind none) in
            let g = follow_right (packages_in all) (others_in (take p all)) (get_or (take p all) i d) (get_or (take p all) j d) f in
            none (ap (λ z. z.kind) (sym tj) ∙ (pair_apart (held_at all p) (get_or (take p all) i d) (get_or (take p all) j d) apart g (ap (λ z. z.name) ti ∙ same ∙ ap (λ z. z.name) (sym tj))).1)
      ]
    ]

-- where a clash stands
record StandsAt (all : List Named) (p : ℕ) (f : Fault) : Type 0 where
  pub place : ℕ
  pub within : place < length all
  pub later : p ≤ place
  pub is : (d : Named) → f ≡ fault (get_or all place d).place 13

-- no clash stands before the place
clash_later : (all : List Named) (p : ℕ) {f : Fault} → AreNamesApart (held_at all p) → ClashFault all f → StandsAt all p f
clash_later all p apart (earlier d c none) =
    let at = λ (e : Named). get_or_default all c.1 e c.2 c.4 ∙ c.5 in
    elim (cases_lt c.1 p) [
      | inl a ↦
          absurd (before_clean all p c.0 c.1 c.2 apart a c.4 (λ e. none (ap (λ z. z.kind) (sym c.5) ∙ e)) (inl c.3) (c.6 ∙ ap (λ z. z.name) (sym c.5)))
      | inr b ↦ record { place = c.1; within = c.4; later = b; is = λ e. ap (λ z. fault z.place 13) (sym (at e)) }
    ]
clash_later all p apart (of_package d e cd ce none is same) =
    let at = λ (x : Named). get_or_default all cd.0 x d cd.1 ∙ cd.2 in
    let there : get_or all ce.0 d ≡ e = get_or_default all ce.0 d e ce.1 ∙ ce.2 in
    elim (cases_lt cd.0 p) [
      | inl a ↦
          absurd (before_clean all p ce.0 cd.0 d apart a cd.1 (λ q. none (ap (λ z. z.kind) (sym cd.2) ∙ q)) (inr (ce.1, ap (λ z. z.kind) there ∙ is)) (ap (λ z. z.name) there ∙ sym same ∙ ap (λ z. z.name) (sym cd.2)))
      | inr b ↦ record { place = cd.0; within = cd.1; later = b; is = λ x. ap (λ z. fault z.place 13) (sym (at x)) }
    ]

-- a declaration that clashes with one that is held is a fault
clash_is : (all : List Named) (p : ℕ) (d : Named) → p < length all → (get_or all p d).kind ≢ Package → Clashes (held_at all p) (get_or all p d) → ClashFault all (fault (get_or all p d).place 13)
clash_is all p d l none c =
    elim (Contains-append_cases (packages_in all) (others_in (take p all)) c.other c.within) [
      | inl a ↦
          let r = from_filter (λ x. is_package x.kind) all c.other a in
          of_package (get_or all p d) c.other (contains_at all p d l) r.0 none (package_from c.other.kind r.1) (sym c.name)
      | inr b ↦
          let r = (from_filter (λ x. not (is_package x.kind)) (take p all) c.other b).0 in
          let lp : r.0 < p = let n = length-take-le p all (omega (arith, l)) in omega (arith, r.1, n) in
          let is : get_or all r.0 d ≡ c.other = sym (get_or-take p all r.0 d lp) ∙ get_or_default (take p all) r.0 d c.other r.1 ∙ r.2 in
          earlier (get_or all p d) (r.0, p, d, lp, l, refl, ap (λ z. z.name) is ∙ c.name) none
    ]

-- and it is the least
pub clash_least : (all : List Named) (p : ℕ) (d : Named) → AllPairs IsOrdered all → p < length all → (get_or all p d).kind ≢ Package → Clashes (held_at all p) (get_or all p d) → IsLeast (ClashFault all) (fault (get_or all p d).place 13)
clash_least all p d ordered l none c = record { holds = clash_is all p d l none c; least = λ g s b. go g (clash_later all p c.apart s) b }
  where
    go : (g : Fault) → StandsAt all p g → FaultIsBefore g (fault (get_or all p d).place 13) → ⊥
    go g s b =
        let is = s.is d in
        let e : g.place ≡ (get_or all s.place d).place = ap (λ z. z.place) is in
        let n : g.number ≡ 13 = ap (λ z. z.number) is in
        let fl : g.place.file ≡ (get_or all s.place d).place.file = ap (λ z. z.file) e in
        let tk : g.place.token ≡ (get_or all s.place d).place.token = ap (λ z. z.token) e in
        elim (cases_lt p s.place) [
          | inl a ↦ elim (ordered p s.place d a s.within none) [
            | inl f ↦ elim b [ inl q ↦ omega (arith, q, f, fl) | inr q ↦ omega (arith, q.0, f, fl) ]
            | inr f ↦ elim b [
              | inl q ↦ omega (arith, q, f.0, fl)
              | inr q ↦ elim q.1 [ inl t ↦ omega (arith, t, f.1, tk) | inr t ↦ omega (arith, t.1, n) ]
            ]
          ]
          | inr r ↦
              let k = s.later in
              let same : s.place ≡ p = omega (arith, r, k) in
              let fs : g.place.file ≡ (get_or all p d).place.file = fl ∙ ap (λ z. (get_or all z d).place.file) same in
              let ts : g.place.token ≡ (get_or all p d).place.token = tk ∙ ap (λ z. (get_or all z d).place.token) same in
              elim b [
                | inl q ↦ omega (arith, q, fs)
                | inr q ↦ elim q.1 [ inl t ↦ omega (arith, t, ts) | inr t ↦ omega (arith, t.1, n) ]
              ]
        ]

-- no clash at all
pub clash_none : (all : List Named) (f : Fault) → AreNamesApart (held_at all (length all)) → ClashFault all f → ⊥
clash_none all f apart c =
    let s = clash_later all (length all) apart c in
    let l = s.later in
    let w = s.within in
    omega (arith, l, w)
