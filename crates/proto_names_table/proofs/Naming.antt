-- The declarations of files by their full names (for the crates above).
use Rattle.std.proofs.Common.{◌≡◌, ◌≢◌, ◌⊎◌, ℕ, zero, suc, ◌+◌, ◌-◌, ◌<◌, ◌≤◌, List, [], ◌∷◌, ◌++◌, length, get_or, map, take, drop, refl, sym, ◌∙◌, ap, subst, inl, inr, arith, length-append, append_assoc, AllPairs, Contains, append-nil}
use Rattle.std.specs.Cow.{cow_str_bytes}
use Rattle.proto_base.proofs.Common.{cases_eq, cases_lt, get_or-map, length-map, map-append, get_or_at, get_or-append_right, get_or_default, Contains-append_cases}
use Rattle.proto_names_rules.specs.declared.kind.Kind.TheVariants.{Package}
use Rattle.proto_names_rules.proofs.Common.{at, joined, ArePlain, IsPlain, under, front, get_front}
use Rattle.proto_names_outline.specs.Listing.{needs}
use Rattle.proto_names_outline.specs.declared.listing.Above.{Above}
use Rattle.proto_names_outline.specs.declared.listing.Above.TheVariants.{Outermost, Below}
use Rattle.proto_names_table.specs.Common.{Spelled, Table, names_of, Named, name_above, named_by, named_on, named_in, all_named, AreSpelled, AreInFront, AreRowsOfNames, number_above}
use Rattle.proto_names_table.proofs.Search.{joined_more, pick}

pub contains_at : {X : Type 0} (xs : List X) (i : ℕ) (d : X) → i < length xs → Contains xs (get_or xs i d)
contains_at xs i d l = (i, l, get_or_default xs i (get_or xs i d) d l)

-- what stands before all else that is no package
pub in_front : (count : ℕ) (ss : List Spelled) → AreSpelled ss → count ≤ length ss → ((k : ℕ) (s : Spelled) → k < count → (get_or ss k s).kind ≡ Package) → (count < length ss → (s : Spelled) → (get_or ss count s).kind ≢ Package) → AreInFront count ss
in_front count ss ok l front next = record {
  within = l;
  front = front;
  behind = λ k s lc lk e. elim (cases_eq k count) [
    | inl same ↦ next (omega (arith, lc, lk)) s (ap (λ z. (get_or ss z s).kind) (sym same) ∙ e)
    | inr ne ↦ next (omega (arith, lc, lk)) s (ok.packages count k s (omega (arith, lc, ne)) lk e)
  ];
}

-- ---- one file

above_front : (before xs : List Named) (a : Above) → needs a ≤ length before → name_above (before ++ xs) a ≡ name_above before a
above_front before xs Outermost l = refl
above_front before xs (Below k) l = ap (λ z. get_or z k []) (map-append (λ d. d.name) before xs) ∙ get_front (map (λ d. d.name) before) (map (λ d. d.name) xs) k [] (let n = length-map before (λ d. d.name) in omega (arith, l, n))

by_name : (file : ℕ) (xs ys : List Named) (s : Spelled) → name_above xs s.above ≡ name_above ys s.above → named_by file xs s ≡ named_by file ys s
by_name file xs ys s e = ap (λ (z : List (List ℕ)). let i : Named = record { name = z ++ cow_str_bytes s.word ∷ []; kind = s.kind; place = at file s.token } in i) e

on_front : (file : ℕ) (before : List Named) (ss : List Spelled) → (xs : List Named) × (named_on file before ss ≡ before ++ xs)
on_front file before [] = ([], sym (append-nil before))
on_front file before (s ∷ ss) =
    let r = on_front file (before ++ named_by file before s ∷ []) ss in
    (named_by file before s ∷ r.0, r.1 ∙ append_assoc before (named_by file before s ∷ []) r.0)

on_length : (file : ℕ) (before : List Named) (ss : List Spelled) → length (named_on file before ss) ≡ length before + length ss
on_length file before [] = omega arith
on_length file before (s ∷ ss) =
    let r = on_length file (before ++ named_by file before s ∷ []) ss in
    let n = length-append before (named_by file before s ∷ []) in
    omega (arith, r, n)

pub named_length : (file : ℕ) (ss : List Spelled) → length (named_in file ss) ≡ length ss
named_length file ss = let r = on_length file [] ss in omega (arith, r)

on_at : (file : ℕ) (before : List Named) (ss : List Spelled) (k : ℕ) (s : Spelled) (d : Named) → ((j : ℕ) (x : Spelled) → j < length ss → needs (get_or ss j x).above ≤ length before + j) → k < length ss
    → get_or (named_on file before ss) (length before + k) d ≡ named_by file (named_on file before ss) (get_or ss k s)
on_at file before [] k s d o l = absurd (omega (arith, l))
on_at file before (t ∷ ss) zero s d o l =
    let n = named_by file before t in
    let r = on_front file (before ++ n ∷ []) ss in
    let e : named_on file (before ++ n ∷ []) ss ≡ before ++ n ∷ r.0 = r.1 ∙ append_assoc before (n ∷ []) r.0 in
    let z : length before + 0 ≡ length before = omega arith in
    let h = o 0 s (omega arith) in
    ap (λ y. get_or y (length before + 0) d) e ∙ ap (λ i. get_or (before ++ n ∷ r.0) i d) z ∙ get_or_at before n r.0 d (length before) refl
    ∙ by_name file before (named_on file (before ++ n ∷ []) ss) t (sym (ap (λ y. name_above y t.above) e ∙ above_front before (n ∷ r.0) t.above (omega (arith, h))))
on_at file before (t ∷ ss) (suc k) s d o l =
    let n = named_by file before t in
    let size = length-append before (n ∷ []) in
    let z : length before + suc k ≡ length (before ++ n ∷ []) + k = omega (arith, size) in
    ap (λ i. get_or (named_on file (before ++ n ∷ []) ss) i d) z
    ∙ on_at file (before ++ n ∷ []) ss k s d (λ j x lj. let h = o (suc j) x (omega (arith, lj)) in omega (arith, h, size)) (omega (arith, l))

named_at : (file : ℕ) (ss : List Spelled) (k : ℕ) (s : Spelled) (d : Named) → AreSpelled ss → k < length ss → get_or (named_in file ss) k d ≡ named_by file (named_in file ss) (get_or ss k s)
named_at file ss k s d ok l =
    let z : k ≡ 0 + k = omega arith in
    ap (λ i. get_or (named_in file ss) i d) z ∙ on_at file [] ss k s d (λ j x lj. let h = ok.ordered j x lj in omega (arith, h)) l

pub named_kind : (file : ℕ) (ss : List Spelled) (k : ℕ) (s : Spelled) (d : Named) → AreSpelled ss → k < length ss → (get_or (named_in file ss) k d).kind ≡ (get_or ss k s).kind
named_kind file ss k s d ok l = ap (λ z. z.kind) (named_at file ss k s d ok l)

pub named_place : (file : ℕ) (ss : List Spelled) (k : ℕ) (s : Spelled) (d : Named) → AreSpelled ss → k < length ss → (get_or (named_in file ss) k d).place ≡ at file (get_or ss k s).token
named_place file ss k s d ok l = ap (λ z. z.place) (named_at file ss k s d ok l)

plain_last : (x : List (List ℕ)) (w : List ℕ) → ArePlain x → IsPlain w → ArePlain (x ++ w ∷ [])
plain_last [] w px pw = (pw, tt)
plain_last (v ∷ x) w px pw = (px.0, plain_last x w px.1 pw)

above_plain : (ds : List Named) (a : Above) (d : Named) → needs a ≤ length ds → ((j : ℕ) → j < needs a → ArePlain (get_or ds j d).name) → ArePlain (name_above ds a)
above_plain ds Outermost d l h = tt
above_plain ds (Below j) d l h = subst ArePlain (sym (get_or-map (λ z. z.name) ds j d [] (omega (arith, l)))) (h j (omega arith))

front_plain : (file : ℕ) (ss : List Spelled) (n k : ℕ) (d : Named) → AreSpelled ss → k < n → k < length ss → ArePlain (get_or (named_in file ss) k d).name
front_plain file ss zero k d ok kn l = absurd (omega (arith, kn))
front_plain file ss (suc n) k d ok kn l =
    let s = pick ss k l in
    let h = ok.ordered k s l in
    let size = named_length file ss in
    subst (λ z. ArePlain z.name) (sym (named_at file ss k s d ok l))
    (plain_last (name_above (named_in file ss) (get_or ss k s).above) (cow_str_bytes (get_or ss k s).word)
    (above_plain (named_in file ss) (get_or ss k s).above d (omega (arith, h, l, size)) (λ j lj. front_plain file ss n j d ok (omega (arith, lj, h, kn)) (omega (arith, lj, h, l))))
    (ok.plain k s l))

pub named_plain : (file : ℕ) (ss : List Spelled) (k : ℕ) (d : Named) → AreSpelled ss → k < length ss → ArePlain (get_or (named_in file ss) k d).name
named_plain file ss k d ok l = front_plain file ss (suc k) k d ok (omega arith) l

-- the text above an entry, by the row of what it stands below
above_text : (t : Table) (ds : List Named) (rows : List ℕ) (a : Above) (d : Named) → AreRowsOfNames t ds rows → needs a ≤ length rows → front (names_of t) (number_above rows a) ≡ joined (name_above ds a)
above_text t ds rows Outermost d r l = refl
above_text t ds rows (Below j) d r l =
    let z : get_or rows j 0 + 1 ≡ suc (get_or rows j 0) = omega arith in
    let c = r.count in
    ap (front (names_of t)) z ∙ (r.each j 0 d (omega (arith, l))).name ∙ ap joined (sym (get_or-map (λ x. x.name) ds j d [] (omega (arith, l, c))))

-- the text of the next entry
pub named_text : (t : Table) (file : ℕ) (ss : List Spelled) (rows : List ℕ) (k : ℕ) (s : Spelled) (d : Named) → AreSpelled ss → AreRowsOfNames t (named_in file ss) rows → length rows ≡ k → k < length ss
    → under (front (names_of t) (number_above rows (get_or ss k s).above)) (cow_str_bytes (get_or ss k s).word) ≡ joined (get_or (named_in file ss) k d).name
named_text t file ss rows k s d ok r e l =
    let h = ok.ordered k s l in
    let size = named_length file ss in
    let w = cow_str_bytes (get_or ss k s).word in
    ap (λ z. under z w) (above_text t (named_in file ss) rows (get_or ss k s).above d r (omega (arith, h, e)))
    ∙ sym (joined_more (name_above (named_in file ss) (get_or ss k s).above) w
    (above_plain (named_in file ss) (get_or ss k s).above d (omega (arith, h, l, size)) (λ j lj. named_plain file ss j d ok (omega (arith, lj, h, l)))))
    ∙ ap (λ z. joined z.name) (sym (named_at file ss k s d ok l))

-- ---- all files

pub all_more : (n : ℕ) (fs : List (List Spelled)) (x : List Spelled) → all_named n (fs ++ x ∷ []) ≡ all_named n fs ++ named_in (n + length fs) x
all_more n [] x = let z : n ≡ n + 0 = omega arith in append-nil (named_in n x) ∙ ap (λ k. named_in k x) z
all_more n (y ∷ fs) x =
    let z : suc n + length fs ≡ n + suc (length fs) = omega arith in
    ap (λ t. named_in n y ++ t) (all_more (suc n) fs x ∙ ap (λ k. all_named (suc n) fs ++ named_in k x) z)
    ∙ sym (append_assoc (named_in n y) (all_named (suc n) fs) (named_in (n + suc (length fs)) x))

pub all_split : (n : ℕ) (fs : List (List Spelled)) (i : ℕ) → i < length fs → all_named n fs ≡ all_named n (take i fs) ++ (named_in (n + i) (get_or fs i []) ++ all_named (n + suc i) (drop (suc i) fs))
all_split n [] i l = absurd (omega (arith, l))
all_split n (f ∷ fs) zero l =
    let z : n ≡ n + 0 = omega arith in
    let y : suc n ≡ n + 1 = omega arith in
    ap (λ k. named_in k f ++ all_named (suc n) fs) z ∙ ap (λ k. named_in (n + 0) f ++ all_named k fs) y
all_split n (f ∷ fs) (suc i) l =
    let z : suc n + i ≡ n + suc i = omega arith in
    let y : suc n + suc i ≡ n + suc (suc i) = omega arith in
    ap (λ t. named_in n f ++ t)
    (all_split (suc n) fs i (omega (arith, l))
    ∙ ap (λ k. all_named (suc n) (take i fs) ++ (named_in k (get_or fs i []) ++ all_named (suc n + suc i) (drop (suc i) fs))) z
    ∙ ap (λ k. all_named (suc n) (take i fs) ++ (named_in (n + suc i) (get_or fs i []) ++ all_named k (drop (suc i) fs))) y)
    ∙ sym (append_assoc (named_in n f) (all_named (suc n) (take i fs)) (named_in (n + suc i) (get_or fs i []) ++ all_named (n + suc (suc i)) (drop (suc i) fs)))

-- one behind another, by file and token, where the first is no package
abbrev pub IsOrdered : Named → Named → Type 0
IsOrdered x y = x.kind ≢ Package → (x.place.file < y.place.file) ⊎ ((x.place.file ≡ y.place.file) × (x.place.token ≤ y.place.token))

pub pairs_append : {X : Type 0} (R : X → X → Type 0) (xs ys : List X) → AllPairs R xs → AllPairs R ys → ((x y : X) → Contains xs x → Contains ys y → R x y) → AllPairs R (xs ++ ys)
pairs_append R xs ys hx hy hc i j d l lj =
    let size = length-append xs ys in
    elim (cases_lt j (length xs)) [
      | inl a ↦
          let ia : i < length xs = omega (arith, a, l) in
          subst (λ z. R z (get_or (xs ++ ys) j d)) (sym (get_front xs ys i d ia)) (subst (R (get_or xs i d)) (sym (get_front xs ys j d a)) (hx i j d l a))
      | inr b ↦
          let lb : j - length xs < length ys = omega (arith, b, lj, size) in
          let right = sym (get_or-append_right xs ys (length xs) j d refl b) in
          elim (cases_lt i (length xs)) [
            | inl a ↦ subst (λ z. R z (get_or (xs ++ ys) j d)) (sym (get_front xs ys i d a)) (subst (R (get_or xs i d)) right (hc (get_or xs i d) (get_or ys (j - length xs) d) (contains_at xs i d a) (contains_at ys (j - length xs) d lb)))
            | inr c ↦ subst (λ z. R z (get_or (xs ++ ys) j d)) (sym (get_or-append_right xs ys (length xs) i d refl c)) (subst (R (get_or ys (i - length xs) d)) right (hy (i - length xs) (j - length xs) d (omega (arith, l, b, c)) lb))
          ]
    ]

own_file : (file : ℕ) (ss : List Spelled) (x : Named) → AreSpelled ss → Contains (named_in file ss) x → x.place.file ≡ file
own_file file ss x ok c =
    let size = named_length file ss in
    let l : c.0 < length ss = omega (arith, c.1, size) in
    ap (λ z. z.place.file) (sym c.2) ∙ ap (λ z. z.file) (named_place file ss c.0 (pick ss c.0 l) x ok l)

later_file : (n : ℕ) (fs : List (List Spelled)) (x : Named) → ((i : ℕ) → i < length fs → AreSpelled (get_or fs i [])) → Contains (all_named n fs) x → n ≤ x.place.file
later_file n [] x ok c = absurd (omega (arith, c.1))
later_file n (f ∷ fs) x ok c = elim (Contains-append_cases (named_in n f) (all_named (suc n) fs) x c) [
  | inl a ↦ let e = own_file n f x (ok 0 (omega arith)) a in omega (arith, e)
  | inr b ↦ let r = later_file (suc n) fs x (λ i l. ok (suc i) (omega (arith, l))) b in omega (arith, r)
]

own_ordered : (file : ℕ) (ss : List Spelled) → AreSpelled ss → AllPairs IsOrdered (named_in file ss)
own_ordered file ss ok i j d l lj other =
    let size = named_length file ss in
    let kj : j < length ss = omega (arith, lj, size) in
    let ki : i < length ss = omega (arith, l, kj) in
    let s = pick ss j kj in
    let pi = named_place file ss i s d ok ki in
    let pj = named_place file ss j s d ok kj in
    let r = ok.rising i j s l kj (λ e. other (named_kind file ss i s d ok ki ∙ e)) in
    let ti : (get_or (named_in file ss) i d).place.token ≡ (get_or ss i s).token = ap (λ z. z.token) pi in
    let tj : (get_or (named_in file ss) j d).place.token ≡ (get_or ss j s).token = ap (λ z. z.token) pj in
    inr (ap (λ z. z.file) pi ∙ sym (ap (λ z. z.file) pj), omega (arith, r, ti, tj))

pub all_ordered : (n : ℕ) (fs : List (List Spelled)) → ((i : ℕ) → i < length fs → AreSpelled (get_or fs i [])) → AllPairs IsOrdered (all_named n fs)
all_ordered n [] ok = λ i j d l lj. absurd (omega (arith, lj))
all_ordered n (f ∷ fs) ok = pairs_append IsOrdered (named_in n f) (all_named (suc n) fs) (own_ordered n f (ok 0 (omega arith))) (all_ordered (suc n) fs (λ i l. ok (suc i) (omega (arith, l)))) (λ x y cx cy other.
    (let e = own_file n f x (ok 0 (omega arith)) cx in
    let r = later_file (suc n) fs y (λ i l. ok (suc i) (omega (arith, l))) cy in
    inl (omega (arith, e, r))))
