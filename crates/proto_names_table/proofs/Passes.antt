-- Packages of all files in the table, and then all else.
use Rattle.std.proofs.Common.{◌≡◌, ◌≢◌, ℕ, zero, suc, ◌+◌, ◌<◌, ◌≤◌, List, [], ◌∷◌, ◌++◌, length, get_or, map, take, drop, refl, sym, ◌∙◌, ap, subst, inl, inr, arith, slice_set, length-append, append_assoc, not, All, Contains, take_all, length-take-le, get_or-take, get_or-append-add, get_or-drop, get_or-set_same, get_or-set_other, length-set, length-drop}
use Rattle.proto_base.proofs.Common.{cases_eq, cases_Bool, cond-true, cond-false, take_more, length-map, get_or-map, take-append-le, Contains-append_cases, Contains-append_left, Contains-append_right, filter-append, contains_map, from_map, contains_filter, from_filter}
use Rattle.proto_names_rules.specs.declared.kind.Kind.TheVariants.{Package}
use Rattle.proto_names_rules.proofs.Common.{Symbol, is_package, Fault, fault, IsLeast, get_front, get_last, package_from, package_or}
use Rattle.proto_names_table.specs.Common.{Spelled, Table, NameError, Clash, NoMemory, AreDeclared, IsIndexOf, Named, named_in, all_named, symbol_named, AreSpelled, ClashFault, AreInFront, AreNamesApart, ArePackageRows, AreRows, AreRowsOfNames, Clashes, Holds, IsKept, IsNameError, StopsIn, packages_in, others_in}
use Rattle.proto_names_table.proofs.Clashing.{clash_least, clash_none, held_at, is_other}
use Rattle.proto_names_table.proofs.Filled.{rows_kept}
use Rattle.proto_names_table.proofs.Held.{index_same}
use Rattle.proto_names_table.proofs.Naming.{all_more, all_ordered, all_split, named_kind, named_length}
use Rattle.proto_names_table.proofs.Search.{pick}

pub within_map : {V X : Type 0} (f : V → X) (vs : List V) (i : ℕ) → i < length vs → i < length (map f vs)
within_map f vs i l = let n = length-map vs f in omega (arith, l, n)

pub item_at : {V X : Type 0} (f : V → List X) (vs : List V) (i : ℕ) (v : V) → i < length vs → v ≡ get_or vs i v → f v ≡ get_or (map f vs) i []
item_at f vs i v l is = ap f is ∙ sym (get_or-map f vs i v [] l)

pub spelled_at : {V : Type 0} (f : V → List Spelled) (files : List V) → All (λ v. AreSpelled (f v)) files → (j : ℕ) → j < length (map f files) → AreSpelled (get_or (map f files) j [])
spelled_at f files all j l =
    let n = length-map files f in
    let lj : j < length files = omega (arith, l, n) in
    let v = pick files j lj in
    subst AreSpelled (sym (get_or-map f files j v [] lj)) (all j v lj)

-- ---- packages stand in front

record IsSplit (c : ℕ) (ds : List Named) : Type 0 where
  pub front : (k : ℕ) (d : Named) → k < c → k < length ds → (get_or ds k d).kind ≡ Package
  pub behind : (k : ℕ) (d : Named) → c ≤ k → k < length ds → (get_or ds k d).kind ≢ Package

split_of : (c file : ℕ) (ss : List Spelled) → AreSpelled ss → AreInFront c ss → IsSplit c (named_in file ss)
split_of c file ss ok f =
    let n = named_length file ss in
    record {
      front = λ k d lc lk. let l : k < length ss = omega (arith, lk, n) in let s = pick ss k l in named_kind file ss k s d ok l ∙ f.front k s lc;
      behind = λ k d lc lk e. let l : k < length ss = omega (arith, lk, n) in let s = pick ss k l in f.behind k s lc l (sym (named_kind file ss k s d ok l) ∙ e);
    }

take_below : (ds : List Named) (n k : ℕ) → k < length (take n ds) → (k < n) × (k < length ds)
take_below ds zero k l = absurd (omega (arith, l))
take_below [] (suc n) k l = absurd (omega (arith, l))
take_below (d ∷ ds) (suc n) zero l = (omega arith, omega arith)
take_below (d ∷ ds) (suc n) (suc k) l = let r = take_below ds n k (omega (arith, l)) in (omega (arith, r.0), omega (arith, r.1))

split_take : (c n : ℕ) (ds : List Named) → IsSplit c ds → IsSplit c (take n ds)
split_take c n ds s = record {
  front = λ k d lc l. let b = take_below ds n k l in ap (λ z. z.kind) (get_or-take n ds k d b.0) ∙ s.front k d lc b.1;
  behind = λ k d lc l e. let b = take_below ds n k l in s.behind k d lc b.1 (ap (λ z. z.kind) (sym (get_or-take n ds k d b.0)) ∙ e);
}

split_tail : (c : ℕ) (d : Named) (ds : List Named) → IsSplit (suc c) (d ∷ ds) → IsSplit c ds
split_tail c d ds s = record { front = λ k e lc l. s.front (suc k) e (omega (arith, lc)) (omega (arith, l)); behind = λ k e lc l. s.behind (suc k) e (omega (arith, lc)) (omega (arith, l)) }

split_rest : (d : Named) (ds : List Named) → IsSplit 0 (d ∷ ds) → IsSplit 0 ds
split_rest d ds s = record { front = λ k e lc l. absurd (omega (arith, lc)); behind = λ k e lc l. s.behind (suc k) e (omega arith) (omega (arith, l)) }

packages_front : (c : ℕ) (ds : List Named) → IsSplit c ds → packages_in ds ≡ take c ds
packages_front zero [] s = refl
packages_front (suc c) [] s = refl
packages_front zero (d ∷ ds) s = elim (package_or d.kind) [
  | inl e ↦ absurd (s.behind 0 d (omega arith) (omega arith) e)
  | inr ne ↦ elim (cases_Bool (is_package d.kind)) [
    | inl h ↦ absurd (ne (package_from d.kind h))
    | inr h ↦ cond-false (is_package d.kind) (d ∷ packages_in ds) (packages_in ds) h ∙ packages_front zero ds (split_rest d ds s)
  ]
]
packages_front (suc c) (d ∷ ds) s =
    cond-true (is_package d.kind) (d ∷ packages_in ds) (packages_in ds) (ap is_package (s.front 0 d (omega arith) (omega arith))) ∙ ap (λ z. d ∷ z) (packages_front c ds (split_tail c d ds s))

others_behind : (c : ℕ) (ds : List Named) → IsSplit c ds → others_in ds ≡ drop c ds
others_behind zero [] s = refl
others_behind (suc c) [] s = refl
others_behind zero (d ∷ ds) s =
    cond-true (not (is_package d.kind)) (d ∷ others_in ds) (others_in ds) (is_other d.kind (s.behind 0 d (omega arith) (omega arith))) ∙ ap (λ z. d ∷ z) (others_behind zero ds (split_rest d ds s))
others_behind (suc c) (d ∷ ds) s =
    cond-false (not (is_package d.kind)) (d ∷ others_in ds) (others_in ds) (ap (λ z. not (is_package z)) (s.front 0 d (omega arith) (omega arith))) ∙ others_behind c ds (split_tail c d ds s)

-- ---- the first pass

-- packages do not clash
pub packages_pass : (ds : List Named) (file c start : ℕ) (ss : List Spelled) (e : NameError) → AreSpelled ss → AreInFront c ss → StopsIn (packages_in ds) (named_in file ss) start c e → e ≡ NoMemory
packages_pass ds file c start ss NoMemory ok f s = refl
packages_pass ds file c start ss (Clash f token) ok front s =
    let n = named_length file ss in
    let w = front.within in
    let lk : s.0 < length (named_in file ss) = let l = s.2 in omega (arith, l, w, n) in
    let d = pick (named_in file ss) s.0 lk in
    let c' = (s.3 d).1 in
    let split = split_of c file ss ok front in
    absurd (c'.not_packages (split.front s.0 d s.2 lk) (elim (Contains-append_cases (packages_in ds) (drop start (take s.0 (named_in file ss))) c'.other c'.within) [
      | inl a ↦ package_from c'.other.kind (from_filter (λ x. is_package x.kind) ds c'.other a).1
      | inr b ↦
          let m = length-drop start (take s.0 (named_in file ss)) in
          let lb : start + b.0 < length (take s.0 (named_in file ss)) = let l = b.1 in omega (arith, l, m) in
          let t = take_below (named_in file ss) s.0 (start + b.0) lb in
          let is : get_or (named_in file ss) (start + b.0) c'.other ≡ c'.other = sym (get_or-take s.0 (named_in file ss) (start + b.0) c'.other t.0) ∙ sym (get_or-drop start (take s.0 (named_in file ss)) b.0 c'.other) ∙ b.2 in
          let l = s.2 in
          ap (λ z. z.kind) (sym is) ∙ split.front (start + b.0) c'.other (omega (arith, t.0, l)) t.1
    ]))

all_next : (fs : List (List Spelled)) (i : ℕ) → i < length fs → all_named 0 (take (i + 1) fs) ≡ all_named 0 (take i fs) ++ named_in i (get_or fs i [])
all_next fs i l =
    let n = length-take-le i fs (omega (arith, l)) in
    let z : 0 + length (take i fs) ≡ i = omega (arith, n) in
    ap (all_named 0) (take_more fs i [] l) ∙ all_more 0 (take i fs) (get_or fs i []) ∙ ap (λ k. all_named 0 (take i fs) ++ named_in k (get_or fs i [])) z

pub packages_next : (fs : List (List Spelled)) (i c start : ℕ) → i < length fs → AreSpelled (get_or fs i []) → AreInFront c (get_or fs i []) → start ≡ 0 → packages_in (all_named 0 (take i fs)) ++ drop start (take c (named_in i (get_or fs i []))) ≡ packages_in (all_named 0 (take (i + 1) fs))
packages_next fs i c start l ok f z =
    ap (λ k. packages_in (all_named 0 (take i fs)) ++ drop k (take c (named_in i (get_or fs i [])))) z
    ∙ ap (λ x. packages_in (all_named 0 (take i fs)) ++ x) (sym (packages_front c (named_in i (get_or fs i [])) (split_of c i (get_or fs i []) ok f)))
    ∙ sym (filter-append (λ d. is_package d.kind) (all_named 0 (take i fs)) (named_in i (get_or fs i [])))
    ∙ ap packages_in (sym (all_next fs i l))

-- no rows of no files
pub no_package_rows : (t : Table) → AreDeclared t.rows.items → ArePackageRows t [] []
no_package_rows t declared = record { declared = declared; paired = refl; counts = λ i l. absurd (omega (arith, l)); each = λ i l. absurd (omega (arith, l)) }

pub package_rows_more : (old new : Table) (fs : List (List Spelled)) (rows : List (List ℕ)) (i : ℕ) (own : List ℕ) → i < length fs → IsKept old new → ArePackageRows old (take i fs) rows → AreInFront (length own) (get_or fs i []) → AreRowsOfNames new (named_in i (get_or fs i [])) own
    → ArePackageRows new (take (i + 1) fs) (rows ++ own ∷ [])
package_rows_more old new fs rows i own l kept r front rows_own =
    let n = length-take-le i fs (omega (arith, l)) in
    let m = length-take-le (i + 1) fs (omega (arith, l)) in
    let size = length-append rows (own ∷ []) in
    let p = r.paired in
    record {
      declared = kept.declared r.declared;
      paired = omega (arith, n, m, size, p);
      counts = λ j lj. elim (cases_eq j (length rows)) [
        | inl e ↦
            let ji : j ≡ i = omega (arith, e, n, p) in
            subst (λ z. AreInFront (length z) (get_or (take (i + 1) fs) j [])) (sym (last j e))
            (subst (AreInFront (length own)) (sym (own_at j ji)) front)
        | inr ne ↦
            let lr : j < length rows = omega (arith, lj, ne, n, m, p) in
            subst (λ z. AreInFront (length z) (get_or (take (i + 1) fs) j [])) (sym (get_front rows (own ∷ []) j [] lr))
            (subst (AreInFront (length (get_or rows j []))) (before j (omega (arith, lr, n, p))) (r.counts j (omega (arith, lr, p))))
      ];
      each = λ j lj. elim (cases_eq j (length rows)) [
        | inl e ↦
            let ji : j ≡ i = omega (arith, e, n, p) in
            subst (AreRowsOfNames new (named_in j (get_or (take (i + 1) fs) j []))) (sym (last j e))
            (subst (λ z. AreRowsOfNames new (named_in j z) own) (sym (own_at j ji)) (subst (λ z. AreRowsOfNames new (named_in z (get_or fs i [])) own) (sym ji) rows_own))
        | inr ne ↦
            let lr : j < length rows = omega (arith, lj, ne, n, m, p) in
            subst (AreRowsOfNames new (named_in j (get_or (take (i + 1) fs) j []))) (sym (get_front rows (own ∷ []) j [] lr))
            (subst (λ z. AreRowsOfNames new (named_in j z) (get_or rows j [])) (before j (omega (arith, lr, n, p))) (rows_kept old new (named_in j (get_or (take i fs) j [])) (get_or rows j []) kept (r.each j (omega (arith, lr, p)))))
      ];
    }
  where
    last : (j : ℕ) → j ≡ length rows → get_or (rows ++ own ∷ []) j [] ≡ own
    last j e = ap (λ z. get_or (rows ++ own ∷ []) z []) e ∙ get_last rows own []

    own_at : (j : ℕ) → j ≡ i → get_or (take (i + 1) fs) j [] ≡ get_or fs i []
    own_at j e = get_or-take (i + 1) fs j [] (omega (arith, e)) ∙ ap (λ z. get_or fs z []) e

    before : (j : ℕ) → j < i → get_or (take i fs) j [] ≡ get_or (take (i + 1) fs) j []
    before j lj = get_or-take i fs j [] lj ∙ sym (get_or-take (i + 1) fs j [] (omega (arith, lj)))

-- ---- the second pass

-- the rows of all declarations of the files before this one, and of the packages of the others
pub record AreRowsTo (t : Table) (fs : List (List Spelled)) (rows : List (List ℕ)) (i : ℕ) : Type 0 where
  pub declared : AreDeclared t.rows.items
  pub paired : length rows ≡ length fs
  pub counts : (j : ℕ) → j < i → j < length fs → length (get_or rows j []) ≡ length (get_or fs j [])
  pub fronts : (j : ℕ) → i ≤ j → j < length fs → AreInFront (length (get_or rows j [])) (get_or fs j [])
  pub each : (j : ℕ) → j < length fs → AreRowsOfNames t (named_in j (get_or fs j [])) (get_or rows j [])

-- before the first file
pub rows_first : (t : Table) (fs : List (List Spelled)) (rows : List (List ℕ)) → ArePackageRows t fs rows → AreRowsTo t fs rows 0
rows_first t fs rows r = record { declared = r.declared; paired = r.paired; counts = λ j l. absurd (omega (arith, l)); fronts = λ j le. r.counts j; each = r.each }

pub rows_last : (t : Table) (fs : List (List Spelled)) (rows : List (List ℕ)) (i : ℕ) → length fs ≤ i → AreRowsTo t fs rows i → AreRows t fs rows
rows_last t fs rows i e r = record {
  declared = r.declared;
  paired = r.paired;
  counts = λ j l. r.counts j (omega (arith, l, e)) l;
  each = λ j k row d lj lk. (r.each j lj).each k row d (let n = r.counts j (omega (arith, lj, e)) lj in omega (arith, lk, n));
}

pub rows_file : (old new : Table) (fs : List (List Spelled)) (rows rows' : List (List ℕ)) (i : ℕ) (own : List ℕ) → i < length fs → IsKept old new → AreRowsTo old fs rows i → rows' ≡ slice_set rows i own → length own ≡ length (get_or fs i []) → AreRowsOfNames new (named_in i (get_or fs i [])) own → AreRowsTo new fs rows' (i + 1)
rows_file old new fs rows rows' i own l kept r set full rows_own =
    let p = r.paired in
    let here : get_or rows' i [] ≡ own = ap (λ z. get_or z i []) set ∙ get_or-set_same rows i own [] (omega (arith, l, p)) in
    let there = λ (j : ℕ) (ne : j ≢ i). ap (λ z. get_or z j []) set ∙ get_or-set_other rows i j own [] ne in
    record {
      declared = kept.declared r.declared;
      paired = ap length set ∙ length-set rows i own ∙ p;
      counts = λ j lj lf. elim (cases_eq j i) [
        | inl e ↦ ap (λ z. length (get_or rows' z [])) e ∙ ap length here ∙ full ∙ ap (λ z. length (get_or fs z [])) (sym e)
        | inr ne ↦ ap length (there j ne) ∙ r.counts j (omega (arith, lj, ne)) lf
      ];
      fronts = λ j lj lf. subst (λ z. AreInFront (length z) (get_or fs j [])) (sym (there j (λ e. omega (arith, e, lj)))) (r.fronts j (omega (arith, lj)) lf);
      each = λ j lf. elim (cases_eq j i) [
        | inl e ↦ subst (λ z. AreRowsOfNames new (named_in z (get_or fs z [])) (get_or rows' z [])) (sym e) (subst (AreRowsOfNames new (named_in i (get_or fs i []))) (sym here) rows_own)
        | inr ne ↦ subst (AreRowsOfNames new (named_in j (get_or fs j []))) (sym (there j ne)) (rows_kept old new (named_in j (get_or fs j [])) (get_or rows j []) kept (r.each j lf))
      ];
    }

pub others_next : (all : List Named) (fs : List (List Spelled)) (i c end : ℕ) → i < length fs → AreSpelled (get_or fs i []) → AreInFront c (get_or fs i []) → end ≡ length (get_or fs i [])
    → (all ++ others_in (all_named 0 (take i fs))) ++ drop c (take end (named_in i (get_or fs i []))) ≡ all ++ others_in (all_named 0 (take (i + 1) fs))
others_next all fs i c end l ok f e =
    let n = named_length i (get_or fs i []) in
    ap (λ z. (all ++ others_in (all_named 0 (take i fs))) ++ drop c z) (take_all end (named_in i (get_or fs i [])) (omega (arith, n, e)))
    ∙ ap (λ z. (all ++ others_in (all_named 0 (take i fs))) ++ z) (sym (others_behind c (named_in i (get_or fs i [])) (split_of c i (get_or fs i []) ok f)))
    ∙ append_assoc all (others_in (all_named 0 (take i fs))) (others_in (named_in i (get_or fs i [])))
    ∙ ap (λ z. all ++ z) (sym (filter-append (λ d. not (is_package d.kind)) (all_named 0 (take i fs)) (named_in i (get_or fs i []))) ∙ ap others_in (sym (all_next fs i l)))

-- the clash that is met is the least
pub stops_least : (fs : List (List Spelled)) (i c end : ℕ) (e : NameError) → ((j : ℕ) → j < length fs → AreSpelled (get_or fs j [])) → i < length fs → AreInFront c (get_or fs i []) → end ≡ length (get_or fs i [])
    → StopsIn (packages_in (all_named 0 fs) ++ others_in (all_named 0 (take i fs))) (named_in i (get_or fs i [])) c end e → IsNameError (ClashFault (all_named 0 fs)) e
stops_least fs i c end NoMemory ok l f le s = tt
stops_least fs i c end (Clash file token) ok l f le s =
    let own = named_in i (get_or fs i []) in
    let before = all_named 0 (take i fs) in
    let behind = all_named (0 + suc i) (drop (suc i) fs) in
    let n = named_length i (get_or fs i []) in
    let lk : s.0 < length (named_in i (get_or fs i [])) = let b = s.2 in omega (arith, b, le, n) in
    let d = pick (named_in i (get_or fs i [])) s.0 lk in
    let x = get_or (named_in i (get_or fs i [])) s.0 d in
    let z : 0 + i ≡ i = omega arith in
    let parts : all_named 0 fs ≡ before ++ (own ++ behind) = all_split 0 fs i l ∙ ap (λ k. all_named 0 (take i fs) ++ (named_in k (get_or fs i []) ++ all_named (0 + suc i) (drop (suc i) fs))) z in
    let size : length (all_named 0 fs) ≡ length before + (length own + length behind) = ap length parts ∙ length-append before (own ++ behind) ∙ ap (λ k. length (all_named 0 (take i fs)) + k) (length-append own behind) in
    let lp : length before + s.0 < length (all_named 0 fs) = omega (arith, size, lk) in
    let there : get_or (all_named 0 fs) (length before + s.0) d ≡ x = ap (λ y. get_or y (length (all_named 0 (take i fs)) + s.0) d) parts ∙ get_or-append-add before (own ++ behind) s.0 d ∙ get_front own behind s.0 d lk in
    let split = split_of c i (get_or fs i []) (ok i l) f in
    let taken : take (length before + s.0) (all_named 0 fs) ≡ before ++ take s.0 own = ap (take (length (all_named 0 (take i fs)) + s.0)) parts ∙ take_behind before (own ++ behind) s.0 ∙ ap (λ y. all_named 0 (take i fs) ++ y) (take-append-le s.0 own behind (omega (arith, lk))) in
    let held : (packages_in (all_named 0 fs) ++ others_in before) ++ drop c (take s.0 own) ≡ held_at (all_named 0 fs) (length before + s.0) =
    append_assoc (packages_in (all_named 0 fs)) (others_in before) (drop c (take s.0 own))
    ∙ ap (λ y. packages_in (all_named 0 fs) ++ (others_in (all_named 0 (take i fs)) ++ y)) (sym (others_behind c (take s.0 own) (split_take c s.0 own split)))
    ∙ ap (λ y. packages_in (all_named 0 fs) ++ y) (sym (filter-append (λ d. not (is_package d.kind)) before (take s.0 own)) ∙ ap others_in (sym taken)) in
    let clash = subst (λ y. Clashes (held_at (all_named 0 fs) (length (all_named 0 (take i fs)) + s.0)) y) (sym there) (subst (λ y. Clashes y (get_or (named_in i (get_or fs i [])) s.0 d)) held (s.3 d).1) in
    let least = clash_least (all_named 0 fs) (length before + s.0) d (all_ordered 0 fs ok) lp (λ e. split.behind s.0 d s.1 lk (ap (λ y. y.kind) (sym there) ∙ e)) clash in
    subst (λ y. IsLeast (ClashFault (all_named 0 fs)) (fault y 13)) (ap (λ y. y.place) there ∙ (s.3 d).0) least
  where
    take_behind : (xs ys : List Named) (k : ℕ) → take (length xs + k) (xs ++ ys) ≡ xs ++ take k ys
    take_behind [] ys k = let z : 0 + k ≡ k = omega arith in ap (λ y. take y ys) z
    take_behind (x ∷ xs) ys k = let z : suc (length xs) + k ≡ suc (length xs + k) = omega arith in ap (λ y. take y (x ∷ (xs ++ ys))) z ∙ ap (λ y. x ∷ y) (take_behind xs ys k)

-- ---- at the end

pub held_index : (t : Table) (all : List Named) → Holds t (packages_in all ++ others_in all) → IsIndexOf t (map symbol_named all)
held_index t all h = index_same t (map symbol_named (packages_in all ++ others_in all)) (map symbol_named all) to from h.index
  where
    to : (s : Symbol) → Contains (map symbol_named (packages_in all ++ others_in all)) s → Contains (map symbol_named all) s
    to s c =
        let r = from_map symbol_named (packages_in all ++ others_in all) s c in
        let w : Contains all r.0 = elim (Contains-append_cases (packages_in all) (others_in all) r.0 r.1) [
          | inl a ↦ (from_filter (λ x. is_package x.kind) all r.0 a).0
          | inr b ↦ (from_filter (λ x. not (is_package x.kind)) all r.0 b).0
        ] in
        subst (Contains (map symbol_named all)) r.2 (contains_map symbol_named all r.0 w)

    from : (s : Symbol) → Contains (map symbol_named all) s → Contains (map symbol_named (packages_in all ++ others_in all)) s
    from s c =
        let r = from_map symbol_named all s c in
        let w : Contains (packages_in all ++ others_in all) r.0 = elim (package_or r.0.kind) [
          | inl e ↦ Contains-append_left (packages_in all) (others_in all) r.0 (contains_filter (λ x. is_package x.kind) all r.0 r.1 (ap is_package e))
          | inr ne ↦ Contains-append_right (packages_in all) (others_in all) r.0 (contains_filter (λ x. not (is_package x.kind)) all r.0 r.1 (is_other r.0.kind ne))
        ] in
        subst (Contains (map symbol_named (packages_in all ++ others_in all))) r.2 (contains_map symbol_named (packages_in all ++ others_in all) r.0 w)

pub held_clean : (t : Table) (all : List Named) → Holds t (packages_in all ++ others_in all) → (f : Fault) → ClashFault all f → ⊥
held_clean t all h f c = clash_none all f (subst (λ z. AreNamesApart (packages_in all ++ others_in z)) (sym (take_all (length all) all (omega arith))) h.apart) c
