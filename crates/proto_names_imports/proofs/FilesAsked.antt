-- The imports of many files, file by file.
use Rattle.std.proofs.Common.{◌≡◌, ◌⊎◌, ℕ, zero, suc, ◌+◌, ◌-◌, ◌<◌, List, [], ◌∷◌, ◌++◌, length, get_or, map, sym, ◌∙◌, ap, subst, inl, inr, arith, length-append, Contains, get_or-append-add}
use Rattle.proto_base.proofs.Common.{cases_lt, cases_eq, get_or_default, Contains-append_left, Contains-append_right, Contains-append_cases, from_map}
use Rattle.std.proofs.Math.ListN.{get_or-append}
use Rattle.std.proofs.Math.Seq.{get_or-append_right}
use Rattle.proto_names_rules.specs.Faults.{Fault, IsLeast, AfterEarlier, AskedImport}
use Rattle.proto_names_imports.specs.Common.{asked_by, all_asked, PathFault, unknown, double, WrittenImport}

-- the same file, and more of them
abbrev pub SameFile : (AskedImport → AskedImport → Type 0) → AskedImport → AskedImport → Type 0
SameFile R x y = (x.place.file ≡ y.place.file) × R x y

file_in : (file : ℕ) (ws : List WrittenImport) (a : AskedImport) → Contains (map (asked_by file) ws) a → a.place.file ≡ file
file_in file ws a c = let r = from_map (asked_by file) ws a c in sym (ap (λ z. z.place.file) r.2)

-- an import stands in its file
pub asked_in : (n : ℕ) (fs : List (List WrittenImport)) (a : AskedImport) → Contains (all_asked n fs) a → (k : ℕ) × (k < length fs) × (a.place.file ≡ n + k) × Contains (map (asked_by (n + k)) (get_or fs k [])) a
asked_in n [] a c = absurd (omega (arith, c.1))
asked_in n (ws ∷ fs) a c = elim (Contains-append_cases (map (asked_by n) ws) (all_asked (suc n) fs) a c) [
  | inl h ↦ let z : n ≡ n + 0 = omega arith in (0, omega arith, file_in n ws a h ∙ z, subst (λ m. Contains (map (asked_by m) ws) a) z h)
  | inr t ↦
      let r = asked_in (suc n) fs a t in
      let z : suc n + r.0 ≡ n + suc r.0 = omega arith in
      (suc r.0, omega (arith, r.1), r.2 ∙ z, subst (λ m. Contains (map (asked_by m) (get_or fs r.0 [])) a) z r.3)
]

pub asked_of : (n k : ℕ) (fs : List (List WrittenImport)) (a : AskedImport) → k < length fs → Contains (map (asked_by (n + k)) (get_or fs k [])) a → Contains (all_asked n fs) a
asked_of n k [] a l c = absurd (omega (arith, l))
asked_of n zero (ws ∷ fs) a l c = let z : n + 0 ≡ n = omega arith in Contains-append_left (map (asked_by n) ws) (all_asked (suc n) fs) a (subst (λ m. Contains (map (asked_by m) ws) a) z c)
asked_of n (suc k) (ws ∷ fs) a l c =
    let z : n + suc k ≡ suc n + k = omega arith in
    Contains-append_right (map (asked_by n) ws) (all_asked (suc n) fs) a (asked_of (suc n) k fs a (omega (arith, l)) (subst (λ m. Contains (map (asked_by m) (get_or fs k [])) a) z c))

pub after_left : {A : Type 0} (R : A → A → Type 0) (xs ys : List A) (y : A) → AfterEarlier R xs y → AfterEarlier R (xs ++ ys) y
after_left R xs ys y c =
    let l : c.1 < length (xs ++ ys) = omega (arith, c.4, length-append xs ys) in
    let e = get_or-append xs ys c.2 c.1 c.4 in
    let e' = get_or-append xs ys c.2 c.0 (omega (arith, c.3, c.4)) in
    (c.0, c.1, c.2, c.3, l, e ∙ c.5, subst (λ z. R z y) (sym e') c.6)

pub after_right : {A : Type 0} (R : A → A → Type 0) (xs ys : List A) (y : A) → AfterEarlier R ys y → AfterEarlier R (xs ++ ys) y
after_right R xs ys y c =
    let e = get_or-append-add xs ys c.1 c.2 in
    let e' = get_or-append-add xs ys c.0 c.2 in
    (length xs + c.0, length xs + c.1, c.2, omega (arith, c.3), omega (arith, c.4, length-append xs ys), e ∙ c.5, subst (λ z. R z y) (sym e') c.6)

-- both stand in the one list or in the other, or the earlier one in the first
pub after_cases : {A : Type 0} (R : A → A → Type 0) (xs ys : List A) (y : A) → AfterEarlier R (xs ++ ys) y → (AfterEarlier R xs y ⊎ AfterEarlier R ys y) ⊎ ((x : A) × Contains xs x × Contains ys y × R x y)
after_cases {A} R xs ys y c = elim (cases_lt c.1 (length xs)) [
  | inl l ↦
      let e = get_or-append xs ys c.2 c.1 l in
      let e' = get_or-append xs ys c.2 c.0 (omega (arith, c.3, l)) in
      inl (inl (c.0, c.1, c.2, c.3, l, sym e ∙ c.5, subst (λ z. R z y) e' c.6))
  | inr m ↦
      let n = length-append xs ys in
      let e = get_or-append_right xs ys c.1 c.2 m in
      let lj : c.1 - length xs < length ys = omega (arith, n, c.4, m) in
      elim (cases_lt c.0 (length xs)) [
        | inl l ↦
            let f = get_or-append xs ys c.2 c.0 l in
            inr (get_or xs c.0 c.2, in_at xs c.0 c.2 l, subst (Contains ys) (sym e ∙ c.5) (in_at ys (c.1 - length xs) c.2 lj), subst (λ z. R z y) f c.6)
        | inr k ↦
            let f = get_or-append_right xs ys c.0 c.2 k in
            inl (inr (c.0 - length xs, c.1 - length xs, c.2, omega (arith, c.3, k, m), lj, sym e ∙ c.5, subst (λ z. R z y) f c.6))
      ]
]
  where
    in_at : (zs : List A) (i : ℕ) (d : A) → i < length zs → Contains zs (get_or zs i d)
    in_at zs i d l = (i, l, get_or_default zs i (get_or zs i d) d l)

pub after_contains : {A : Type 0} (R : A → A → Type 0) (xs : List A) (y : A) → AfterEarlier R xs y → Contains xs y
after_contains R xs y c = (c.1, c.4, get_or_default xs c.1 y c.2 c.4 ∙ c.5)

-- an earlier import of the same file stands in that file
pub after_in : (R : AskedImport → AskedImport → Type 0) (n : ℕ) (fs : List (List WrittenImport)) (a : AskedImport) → AfterEarlier (SameFile R) (all_asked n fs) a → (k : ℕ) × (k < length fs) × (a.place.file ≡ n + k) × AfterEarlier (SameFile R) (map (asked_by (n + k)) (get_or fs k [])) a
after_in R n [] a c = absurd (omega (arith, c.4))
after_in R n (ws ∷ fs) a c = elim (after_cases (SameFile R) (map (asked_by n) ws) (all_asked (suc n) fs) a c) [
  | inl same ↦ elim same [
    | inl h ↦ let z : n ≡ n + 0 = omega arith in (0, omega arith, file_in n ws a (after_contains (SameFile R) (map (asked_by n) ws) a h) ∙ z, subst (λ m. AfterEarlier (SameFile R) (map (asked_by m) ws) a) z h)
    | inr t ↦
        let r = after_in R (suc n) fs a t in
        let z : suc n + r.0 ≡ n + suc r.0 = omega arith in
        (suc r.0, omega (arith, r.1), r.2 ∙ z, subst (λ m. AfterEarlier (SameFile R) (map (asked_by m) (get_or fs r.0 [])) a) z r.3)
  ]
  | inr apart ↦
      let low = file_in n ws apart.0 apart.1 in
      let high = (asked_in (suc n) fs a apart.2).2 in
      absurd (omega (arith, low, high, apart.3.0))
]

pub after_of : (R : AskedImport → AskedImport → Type 0) (n k : ℕ) (fs : List (List WrittenImport)) (a : AskedImport) → k < length fs → AfterEarlier R (map (asked_by (n + k)) (get_or fs k [])) a → AfterEarlier R (all_asked n fs) a
after_of R n k [] a l c = absurd (omega (arith, l))
after_of R n zero (ws ∷ fs) a l c = let z : n + 0 ≡ n = omega arith in after_left R (map (asked_by n) ws) (all_asked (suc n) fs) a (subst (λ m. AfterEarlier R (map (asked_by m) ws) a) z c)
after_of R n (suc k) (ws ∷ fs) a l c =
    let z : n + suc k ≡ suc n + k = omega arith in
    after_right R (map (asked_by n) ws) (all_asked (suc n) fs) a (after_of R (suc n) k fs a (omega (arith, l)) (subst (λ m. AfterEarlier R (map (asked_by m) (get_or fs k [])) a) z c))

-- a path fault of the files is one of its file
pub path_in : (paths : List (List ℕ)) (fs : List (List WrittenImport)) {f : Fault} → PathFault paths (all_asked 0 fs) f → (f.place.file < length fs) × PathFault paths (map (asked_by f.place.file) (get_or fs f.place.file [])) f
path_in paths fs (unknown a c n) =
    let r = asked_in 0 fs a c in
    let z : 0 + r.0 ≡ a.place.file = sym r.2 in
    let e : r.0 ≡ a.place.file = omega (arith, z) in
    (omega (arith, r.1, e), unknown a (subst (λ m. Contains (map (asked_by a.place.file) (get_or fs m [])) a) e (subst (λ m. Contains (map (asked_by m) (get_or fs r.0 [])) a) z r.3)) n)
path_in paths fs (double a c) =
    let r = after_in (λ x y. x.path ≡ y.path) 0 fs a c in
    let z : 0 + r.0 ≡ a.place.file = sym r.2 in
    let e : r.0 ≡ a.place.file = omega (arith, z) in
    (omega (arith, r.1, e), double a (subst (λ m. AfterEarlier (SameFile (λ x y. x.path ≡ y.path)) (map (asked_by a.place.file) (get_or fs m [])) a) e (subst (λ m. AfterEarlier (SameFile (λ x y. x.path ≡ y.path)) (map (asked_by m) (get_or fs r.0 [])) a) z r.3)))

-- and the other way round
pub path_of : (paths : List (List ℕ)) (fs : List (List WrittenImport)) (k : ℕ) {f : Fault} → k < length fs → PathFault paths (map (asked_by k) (get_or fs k [])) f → PathFault paths (all_asked 0 fs) f × (f.place.file ≡ k)
path_of paths fs k l (unknown a c n) =
    let z : k ≡ 0 + k = omega arith in
    (unknown a (asked_of 0 k fs a l (subst (λ m. Contains (map (asked_by m) (get_or fs k [])) a) z c)) n, file_in k (get_or fs k []) a c)
path_of paths fs k l (double a c) =
    let z : k ≡ 0 + k = omega arith in
    (double a (after_of (SameFile (λ x y. x.path ≡ y.path)) 0 k fs a l (subst (λ m. AfterEarlier (SameFile (λ x y. x.path ≡ y.path)) (map (asked_by m) (get_or fs k [])) a) z c)), file_in k (get_or fs k []) a (after_contains (SameFile (λ x y. x.path ≡ y.path)) (map (asked_by k) (get_or fs k [])) a c))

-- the first fault of a file, after files without
pub first_here : (Says Here : Fault → Type 0) (k : ℕ) (f : Fault) → ((g : Fault) → Says g → g.place.file < k → ⊥) → ((g : Fault) → Says g → g.place.file ≡ k → Here g) → (Says f × (f.place.file ≡ k)) → IsLeast Here f → IsLeast Says f
first_here Says Here k f none to from least = record {
  holds = from.0;
  least = λ g s b. elim (cases_lt g.place.file k) [
    | inl before ↦ none g s before
    | inr after ↦
        let same : g.place.file ≡ k = elim b [ inl less ↦ absurd (omega (arith, less, after, from.1)) | inr p ↦ p.0 ∙ from.1 ] in
        least.least g (to g s same) b
  ];
}

pub none_more : (Says Here : Fault → Type 0) (k : ℕ) → ((g : Fault) → Says g → g.place.file < k → ⊥) → ((g : Fault) → Says g → g.place.file ≡ k → Here g) → ((g : Fault) → Here g → ⊥) → (g : Fault) → Says g → g.place.file < k + 1 → ⊥
none_more Says Here k none to here g s l = elim (cases_eq g.place.file k) [ inl e ↦ here g (to g s e) | inr ne ↦ none g s (omega (arith, l, ne)) ]

path_here : (paths : List (List ℕ)) (fs : List (List WrittenImport)) (k : ℕ) (g : Fault) → PathFault paths (all_asked 0 fs) g → g.place.file ≡ k → PathFault paths (map (asked_by k) (get_or fs k [])) g
path_here paths fs k g s e = subst (λ m. PathFault paths (map (asked_by m) (get_or fs m [])) g) e (path_in paths fs s).1

pub path_some : (paths : List (List ℕ)) (fs : List (List WrittenImport)) (k : ℕ) (f : Fault) → k < length fs → ((g : Fault) → PathFault paths (all_asked 0 fs) g → g.place.file < k → ⊥) → IsLeast (PathFault paths (map (asked_by k) (get_or fs k []))) f → IsLeast (PathFault paths (all_asked 0 fs)) f
path_some paths fs k f l none least = first_here (PathFault paths (all_asked 0 fs)) (PathFault paths (map (asked_by k) (get_or fs k []))) k f none (path_here paths fs k) (path_of paths fs k l least.holds) least

pub path_more : (paths : List (List ℕ)) (fs : List (List WrittenImport)) (k : ℕ) → ((g : Fault) → PathFault paths (all_asked 0 fs) g → g.place.file < k → ⊥) → ((g : Fault) → PathFault paths (map (asked_by k) (get_or fs k [])) g → ⊥) → (g : Fault) → PathFault paths (all_asked 0 fs) g → g.place.file < k + 1 → ⊥
path_more paths fs k none here = none_more (PathFault paths (all_asked 0 fs)) (PathFault paths (map (asked_by k) (get_or fs k []))) k none (path_here paths fs k) here
