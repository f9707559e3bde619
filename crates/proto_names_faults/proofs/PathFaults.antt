-- Imports whose path no file has, or an earlier import of their file, one import more and one file more.
use Rattle.std.proofs.Common.{◌≡◌, ◌↔◌, ◌⊎◌, ◌||◌, ℕ, zero, suc, ◌+◌, ◌<◌, Bool, true, false, not, List, [], ◌∷◌, ◌++◌, length, get_or, take, map, string_bytes, Option, Some, None, refl, sym, ap, subst, ◌∙◌, inl, inr, arith, Contains, bytes_eq, append_assoc, append-nil, is_some, length-take-le, true≢false}
use Rattle.std.specs.List.{list_any}
use Rattle.proto_base.proofs.Common.{Contains-append_cases, Contains-append_left, Contains-append_right, any_from, any_to, contains_cases, contains_head, contains_later, contains_map, from_map, list_any_more, map-append, none-some, same_from_word, word_from_same}
use Rattle.proto_names_rules.proofs.Common.{AskedImport, Fault, Follows, after_follows, fault, file_with_path, follows_after}
use Rattle.proto_names_imports.specs.Common.{PathFault, all_asked, asked_by, double, unknown}
use Rattle.proto_names_imports.specs.declared.import.WrittenImport.{WrittenImport}
use Rattle.proto_names_imports.proofs.Common.{take_more}
use Rattle.proto_names_faults.specs.Common.{IsDouble, IsUnknown}

-- an earlier import of the same file with the same path
abbrev Earlier : AskedImport → AskedImport → Type 0
Earlier x y = (x.place.file ≡ y.place.file) × (x.path ≡ y.path)

-- ---- lists that stand one behind the other

follows_append : {X : Type 0} (xs ys : List X) (a b : X) → Follows (xs ++ ys) a b → Follows xs a b ⊎ (Follows ys a b ⊎ (Contains xs a × Contains ys b))
follows_append [] ys a b h = inr (inl h)
follows_append (z ∷ xs) ys a b (inl h) = elim (Contains-append_cases xs ys b h.1) [
  | inl c ↦ inl (inl (h.0, c))
  | inr c ↦ inr (inr (subst (Contains (z ∷ xs)) h.0 (contains_head z xs), c))
]
follows_append (z ∷ xs) ys a b (inr h) = elim (follows_append xs ys a b h) [
  | inl f ↦ inl (inr f)
  | inr (inl f) ↦ inr (inl f)
  | inr (inr c) ↦ inr (inr (contains_later z a xs c.0, c.1))
]

follows_left : {X : Type 0} (xs ys : List X) (a b : X) → Follows xs a b → Follows (xs ++ ys) a b
follows_left [] ys a b h = absurd h
follows_left (z ∷ xs) ys a b (inl h) = inl (h.0, Contains-append_left xs ys b h.1)
follows_left (z ∷ xs) ys a b (inr h) = inr (follows_left xs ys a b h)

follows_right : {X : Type 0} (xs ys : List X) (a b : X) → Follows ys a b → Follows (xs ++ ys) a b
follows_right [] ys a b h = h
follows_right (z ∷ xs) ys a b h = inr (follows_right xs ys a b h)

-- first in the one list, then in the other
follows_across : {X : Type 0} (xs ys : List X) (a b : X) → Contains xs a → Contains ys b → Follows (xs ++ ys) a b
follows_across [] ys a b c d = absurd (omega (arith, c.1))
follows_across (z ∷ xs) ys a b c d = elim (contains_cases z a xs c) [
  | inl e ↦ inl (e, Contains-append_right xs ys b d)
  | inr m ↦ inr (follows_across xs ys a b m d)
]

-- ---- path faults of such lists

module _ (paths : List (List ℕ)) where
  abbrev Faults : List AskedImport → Fault → Type 0
  Faults asked = PathFault paths asked

  faults_left : (xs ys : List AskedImport) (f : Fault) → Faults xs f → Faults (xs ++ ys) f
  faults_left xs ys f (unknown a c n) = unknown a (Contains-append_left xs ys a c) n
  faults_left xs ys f (double a h) = let r = follows_after Earlier xs a h in double a (after_follows Earlier (xs ++ ys) r.0 a (follows_left xs ys r.0 a r.1) r.2)

  faults_right : (xs ys : List AskedImport) (f : Fault) → Faults ys f → Faults (xs ++ ys) f
  faults_right xs ys f (unknown a c n) = unknown a (Contains-append_right xs ys a c) n
  faults_right xs ys f (double a h) = let r = follows_after Earlier ys a h in double a (after_follows Earlier (xs ++ ys) r.0 a (follows_right xs ys r.0 a r.1) r.2)

  -- an import of the second list has the path of one of the first
  abbrev IsAcross : List AskedImport → List AskedImport → Fault → Type 0
  IsAcross xs ys f = (e a : AskedImport) × Contains xs e × Contains ys a × Earlier e a × (f ≡ fault a.place 11)

  faults_cases : (xs ys : List AskedImport) (f : Fault) → Faults (xs ++ ys) f → Faults xs f ⊎ (Faults ys f ⊎ IsAcross xs ys f)
  faults_cases xs ys f (unknown a c n) = elim (Contains-append_cases xs ys a c) [ inl l ↦ inl (unknown a l n) | inr r ↦ inr (inl (unknown a r n)) ]
  faults_cases xs ys f (double a h) =
      let r = follows_after Earlier (xs ++ ys) a h in
      elim (follows_append xs ys r.0 a r.1) [
        | inl g ↦ inl (double a (after_follows Earlier xs r.0 a g r.2))
        | inr (inl g) ↦ inr (inl (double a (after_follows Earlier ys r.0 a g r.2)))
        | inr (inr c) ↦ inr (inr (r.0, a, c.0, c.1, r.2, refl))
      ]

  across_fault : (xs ys : List AskedImport) (f : Fault) → IsAcross xs ys f → Faults (xs ++ ys) f
  across_fault xs ys f h = subst (Faults (xs ++ ys)) (sym h.5) (double h.1 (after_follows Earlier (xs ++ ys) h.0 h.1 (follows_across xs ys h.0 h.1 h.2 h.3) h.4))

  -- lists of different files have no fault across them
  apart_faults : (xs ys : List AskedImport) → ((x y : AskedImport) → Contains xs x → Contains ys y → x.place.file ≡ y.place.file → ⊥) → (f : Fault) → (Faults xs f ⊎ Faults ys f) ↔ Faults (xs ++ ys) f
  apart_faults xs ys apart f = (
    λ h. elim h [ inl l ↦ faults_left xs ys f l | inr r ↦ faults_right xs ys f r ],
    λ h. elim (faults_cases xs ys f h) [
      | inl l ↦ inl l
      | inr (inl r) ↦ inr r
      | inr (inr c) ↦ absurd (apart c.0 c.1 c.2 c.3 c.4.0)
    ],
  )

  -- ---- one import more

  module _ (file : ℕ) (ws : List WrittenImport) (i : ℕ) (w : WrittenImport) (l : i < length ws) (is : w ≡ get_or ws i w) where
    abbrev before : List AskedImport
    before = map (asked_by file) (take i ws)

    abbrev own : AskedImport
    own = asked_by file w

    -- an import before it has its path
    abbrev IsAgain : Fault → Type 0
    IsAgain f = ((v : WrittenImport) × Contains (take i ws) v × (string_bytes v.path ≡ string_bytes w.path)) × (f ≡ fault own.place 11)

    one : (f : Fault) → Faults (own ∷ []) f → IsUnknown paths file w f
    one f (unknown a c n) = elim (contains_cases own a [] c) [
      | inl e ↦ (ap (λ (z : AskedImport). file_with_path paths z.path) e ∙ n, ap (λ (z : AskedImport). fault z.place 10) (sym e))
      | inr d ↦ absurd (omega (arith, d.1))
    ]
    one f (double a h) = absurd (let b = h.3 in let m = h.4 in omega (arith, b, m))

    first_cases : (f : Fault) → Faults (before ++ own ∷ []) f → (Faults before f ⊎ IsUnknown paths file w f) ⊎ IsAgain f
    first_cases f h = elim (faults_cases before (own ∷ []) f h) [
      | inl b ↦ inl (inl b)
      | inr (inl o) ↦ inl (inr (one f o))
      | inr (inr c) ↦ elim (contains_cases own c.1 [] c.3) [
        | inl e ↦
            let v = from_map (asked_by file) (take i ws) c.0 c.2 in
            inr ((v.0, v.1, ap (λ (z : AskedImport). z.path) v.2 ∙ c.4.1 ∙ ap (λ (z : AskedImport). z.path) (sym e)), c.5 ∙ ap (λ (z : AskedImport). fault z.place 11) (sym e))
        | inr d ↦ absurd (omega (arith, d.1))
      ]
    ]

    first_from : (f : Fault) → (Faults before f ⊎ IsUnknown paths file w f) ⊎ IsAgain f → Faults (before ++ own ∷ []) f
    first_from f (inl (inl b)) = faults_left before (own ∷ []) f b
    first_from f (inl (inr u)) = subst (Faults (before ++ own ∷ [])) (sym u.1) (unknown own (Contains-append_right before (own ∷ []) own (contains_head own [])) u.0)
    first_from f (inr d) =
        across_fault before (own ∷ []) f
        (asked_by file d.0.0, own, contains_map (asked_by file) (take i ws) d.0.0 d.0.1, contains_head own [], (refl, d.0.2), d.1)

    list_is : map (asked_by file) (take (i + 1) ws) ≡ before ++ own ∷ []
    list_is = ap (map (asked_by file)) (take_more ws i w l ∙ ap (λ z. take i ws ++ z ∷ []) (sym is)) ∙ map-append (asked_by file) (take i ws) (w ∷ [])

    module _ (is_double : Bool) (d : is_double ≡ list_any (λ v. bytes_eq (string_bytes v.path) (string_bytes w.path)) (take i ws)) where
      abbrev has_path : WrittenImport → Bool
      has_path v = bytes_eq (string_bytes v.path) (string_bytes w.path)

      again : (f : Fault) → IsDouble file w is_double f → IsAgain f
      again f h = (let v = any_to has_path (take i ws) (sym d ∙ h.0) in ((v.0, v.1, word_from_same (string_bytes v.0.path) (string_bytes w.path) v.2), h.1))

      from_again : (f : Fault) → IsAgain f → IsDouble file w is_double f
      from_again f h = (d ∙ any_from has_path (take i ws) h.0.0 h.0.1 (same_from_word (string_bytes h.0.0.path) (string_bytes w.path) h.0.2), h.1)

      -- the faults of paths with one import more
      pub path_more : (f : Fault) → (Faults before f ⊎ (IsUnknown paths file w f ⊎ IsDouble file w is_double f)) ↔ Faults (map (asked_by file) (take (i + 1) ws)) f
      path_more f = (
        λ h. subst (λ (xs : List AskedImport). Faults xs f) (sym list_is) (first_from f (elim h [ inl b ↦ inl (inl b) | inr (inl u) ↦ inl (inr u) | inr (inr g) ↦ inr (again f g) ])),
        λ h. elim (first_cases f (subst (λ (xs : List AskedImport). Faults xs f) list_is h)) [ inl (inl b) ↦ inl b | inl (inr u) ↦ inr (inl u) | inr g ↦ inr (inr (from_again f g)) ],
      )

  no_import : (f : Fault) → Faults [] f → ⊥
  no_import f (unknown a c n) = omega (arith, c.1)
  no_import f (double a h) = let m = h.4 in omega (arith, m)

  pub no_imports : (file : ℕ) (ws : List WrittenImport) (f : Fault) → Faults (map (asked_by file) (take 0 ws)) f → ⊥
  no_imports file ws f h = no_import f h

  pub no_files : (fs : List (List WrittenImport)) (f : Fault) → Faults (all_asked 0 (take 0 fs)) f → ⊥
  no_files fs f h = no_import f h

-- the paths that were named, with one more
pub named_more : (text : List ℕ) (ws : List WrittenImport) (i : ℕ) (w : WrittenImport) → i < length ws → w ≡ get_or ws i w → (old new : Bool) → old ≡ list_any (λ v. bytes_eq (string_bytes v.path) text) (take i ws) → new ≡ (old || bytes_eq (string_bytes w.path) text)
    → new ≡ list_any (λ v. bytes_eq (string_bytes v.path) text) (take (i + 1) ws)
named_more text ws i w l is old new before now =
    now ∙ ap (λ b. b || bytes_eq (string_bytes w.path) text) before
    ∙ ap (λ (v : WrittenImport). list_any (λ v. bytes_eq (string_bytes v.path) text) (take i ws) || bytes_eq (string_bytes v.path) text) is
    ∙ sym (list_any_more (λ (v : WrittenImport). bytes_eq (string_bytes v.path) text) ws i w l)

-- ---- one file more

pub asked_more : (n : ℕ) (fs : List (List WrittenImport)) (x : List WrittenImport) → all_asked n (fs ++ x ∷ []) ≡ all_asked n fs ++ map (asked_by (n + length fs)) x
asked_more n [] x = let z : n ≡ n + 0 = omega arith in append-nil (map (asked_by n) x) ∙ ap (λ k. map (asked_by k) x) z
asked_more n (y ∷ fs) x =
    let z : suc n + length fs ≡ n + suc (length fs) = omega arith in
    ap (λ t. map (asked_by n) y ++ t) (asked_more (suc n) fs x ∙ ap (λ k. all_asked (suc n) fs ++ map (asked_by k) x) z)
    ∙ sym (append_assoc (map (asked_by n) y) (all_asked (suc n) fs) (map (asked_by (n + suc (length fs))) x))

in_file : (file : ℕ) (ws : List WrittenImport) (a : AskedImport) → Contains (map (asked_by file) ws) a → a.place.file ≡ file
in_file file ws a c = let r = from_map (asked_by file) ws a c in sym (ap (λ (z : AskedImport). z.place.file) r.2)

-- an import stands in its file
pub asked_in : (n : ℕ) (fs : List (List WrittenImport)) (a : AskedImport) → Contains (all_asked n fs) a → (k : ℕ) × (k < length fs) × (a.place.file ≡ n + k) × Contains (map (asked_by (n + k)) (get_or fs k [])) a
asked_in n [] a c = absurd (omega (arith, c.1))
asked_in n (ws ∷ fs) a c = elim (Contains-append_cases (map (asked_by n) ws) (all_asked (suc n) fs) a c) [
  | inl h ↦ let z : n ≡ n + 0 = omega arith in (0, omega arith, in_file n ws a h ∙ z, subst (λ m. Contains (map (asked_by m) ws) a) z h)
  | inr t ↦
      let r = asked_in (suc n) fs a t in
      let z : suc n + r.0 ≡ n + suc r.0 = omega arith in
      (suc r.0, omega (arith, r.1), r.2 ∙ z, subst (λ m. Contains (map (asked_by m) (get_or fs r.0 [])) a) z r.3)
]

pub asked_of : (n k : ℕ) (fs : List (List WrittenImport)) (a : AskedImport) → k < length fs → Contains (map (asked_by (n + k)) (get_or fs k [])) a → Contains (all_asked n fs) a
asked_of n k [] a l c = absurd (omega (arith, l))
asked_of n zero (ws ∷ fs) a l c = let z : n + 0 ≡ n = omega arith in Contains-append_left (map (asked_by n) ws) (all_asked (suc n) fs) a (subst (λ m. Contains (map (asked_by m) ws) a) z c)
asked_of n (suc k) (ws ∷ fs) a l c =
    let z : n + suc k ≡ suc n + k = omega arith in
    Contains-append_right (map (asked_by n) ws) (all_asked (suc n) fs) a (asked_of (suc n) k fs a (omega (arith, l)) (subst (λ m. Contains (map (asked_by m) (get_or fs k [])) a) z c))

-- the faults of paths with one file more
pub path_file : (paths : List (List ℕ)) (fs : List (List WrittenImport)) (k : ℕ) → k < length fs → (f : Fault) → (PathFault paths (all_asked 0 (take k fs)) f ⊎ PathFault paths (map (asked_by k) (get_or fs k [])) f) ↔ PathFault paths (all_asked 0 (take (k + 1) fs)) f
path_file paths fs k l f =
    let front = all_asked 0 (take k fs) in
    let own = map (asked_by k) (get_or fs k []) in
    let n : 0 + length (take k fs) ≡ k = let q = length-take-le k fs (omega (arith, l)) in omega (arith, q) in
    let e : all_asked 0 (take (k + 1) fs) ≡ front ++ own = ap (all_asked 0) (take_more fs k [] l) ∙ asked_more 0 (take k fs) (get_or fs k []) ∙ ap (λ (m : ℕ). front ++ map (asked_by m) (get_or fs k [])) n in
    subst (λ (xs : List AskedImport). (PathFault paths front f ⊎ PathFault paths own f) ↔ PathFault paths xs f) (sym e)
    (apart_faults paths front own (λ x y cx cy same.
    (let r = asked_in 0 (take k fs) x cx in
    let lr = r.1 in
    let fx = r.2 in
    let fy = in_file k (get_or fs k []) y cy in
    omega (arith, lr, fx, fy, same, n))) f)

-- there is none
pub none_is : {X : Type 0} (b : Bool) (o : Option X) → is_some o ≡ not b → (b ≡ true) ↔ (o ≡ None)
none_is true None e = (λ t. refl, λ n. refl)
none_is false None e = absurd (true≢false (sym e))
none_is true (Some x) e = absurd (true≢false e)
none_is false (Some x) e = (λ t. absurd (true≢false (sym t)), λ n. absurd (none-some x (sym n)))
