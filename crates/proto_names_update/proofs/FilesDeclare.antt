-- What files declare, file by file and all together, and when none of it clashes.
use Rattle.std.proofs.Common.{◌≡◌, ◌⊎◌, ℕ, zero, suc, ◌+◌, ◌-◌, ◌<◌, List, [], ◌∷◌, ◌++◌, length, get_or, map, refl, sym, ◌∙◌, ap, subst, inl, inr, arith, AllPairs, Contains, get_or-append-add, length-append}
use Rattle.proto_base.proofs.Common.{Contains-append_cases, Contains-append_left, Contains-append_right, cases_eq, cases_lt, from_map, get_or-map, get_or_default, length-map}
use Rattle.proto_files.proofs.Common.{AreRead, FileOf, ReadOf, file_at, read_at}
use Rattle.proto_names_imports.specs.Links.{names_in, names_of_files, text_of}
use Rattle.proto_names_outline.proofs.Common.{items_in, package_first, tree_span}
use Rattle.proto_names_rules.proofs.Common.{At, FileNames, Fault, ItemsSpan, at, fault, get_front, package_or}
use Rattle.proto_names_rules.specs.declared.kind.Kind.TheVariants.{Package}
use Rattle.proto_names_update.specs.Relinked.{NoNameClashes}
use Rattle.proto_names_table.proofs.Common.{AreSpans, ClashFault, IsIndexOf, Named, clashes_are_faults, named_as, same_symbols, symbol_named, tree_named}
use Rattle.proto_names_table.proofs.Held.{index_same}
use Rattle.proto_names_table.proofs.Naming.{contains_at, pairs_append}
use Rattle.proto_names_table.specs.Filling.{AreNamesApart}
use Rattle.proto_names_table.specs.Spelled.{earlier, of_package}
use Rattle.proto_names_table.specs.declared.table.Table.{Table}
use Rattle.proto_tree.specs.Tree.{End}

-- ---- pairs of lists that stand one behind the other

pub pairs_left : {X : Type 0} (R : X → X → Type 0) (xs ys : List X) → AllPairs R (xs ++ ys) → AllPairs R xs
pairs_left R xs ys h i j d l lj =
    let size = length-append xs ys in
    subst (λ z. R z (get_or xs j d)) (get_front xs ys i d (omega (arith, l, lj)))
    (subst (λ z. R (get_or (xs ++ ys) i d) z) (get_front xs ys j d lj) (h i j d l (omega (arith, lj, size))))

pub pairs_right : {X : Type 0} (R : X → X → Type 0) (xs ys : List X) → AllPairs R (xs ++ ys) → AllPairs R ys
pairs_right R xs ys h i j d l lj =
    let size = length-append xs ys in
    subst (λ z. R z (get_or ys j d)) (get_or-append-add xs ys i d)
    (subst (λ z. R (get_or (xs ++ ys) (length xs + i) d) z) (get_or-append-add xs ys j d) (h (length xs + i) (length xs + j) d (omega (arith, l)) (omega (arith, lj, size))))

-- ---- names that are apart, and clashes

abbrev pub AreBothPackages : Named → Named → Type 0
AreBothPackages x y = (x.kind ≡ Package) × (y.kind ≡ Package)

-- two of one name are one, or packages
pub one_or_packages : (ds : List Named) (x y : Named) → AreNamesApart ds → Contains ds x → Contains ds y → x.name ≡ y.name → (x ≡ y) ⊎ AreBothPackages x y
one_or_packages ds x y apart cx cy same =
    let here : get_or ds cx.0 x ≡ x = cx.2 in
    let there : get_or ds cy.0 x ≡ y = get_or_default ds cy.0 x y cy.1 ∙ cy.2 in
    elim (cases_eq cx.0 cy.0) [
      | inl e ↦ inl (sym here ∙ ap (λ i. get_or ds i x) e ∙ there)
      | inr ne ↦ elim (cases_lt cx.0 cy.0) [
        | inl lt ↦
            let r = apart cx.0 cy.0 x lt cy.1 (ap (λ (z : Named). z.name) here ∙ same ∙ sym (ap (λ (z : Named). z.name) there)) in
            inr (sym (ap (λ (z : Named). z.kind) here) ∙ r.0, sym (ap (λ (z : Named). z.kind) there) ∙ r.1)
        | inr le ↦
            let r = apart cy.0 cx.0 x (omega (arith, le, ne)) cx.1 (ap (λ (z : Named). z.name) there ∙ sym same ∙ sym (ap (λ (z : Named). z.name) here)) in
            inr (sym (ap (λ (z : Named). z.kind) here) ∙ r.1, sym (ap (λ (z : Named). z.kind) there) ∙ r.0)
      ]
    ]

none_clash : (ds : List Named) → AreNamesApart ds → (f : Fault) → ClashFault ds f → ⊥
none_clash ds apart f (earlier d a other) =
    let r = apart a.0 a.1 a.2 a.3 a.4 (a.6 ∙ sym (ap (λ (z : Named). z.name) a.5)) in
    other (sym (ap (λ (z : Named). z.kind) a.5) ∙ r.1)
none_clash ds apart f (of_package d e cd ce other own same) = elim (one_or_packages ds d e apart cd ce same) [
  | inl one ↦ other (ap (λ (z : Named). z.kind) one ∙ own)
  | inr both ↦ other both.0
]

apart_names : (ds : List Named) → ((f : Fault) → ClashFault ds f → ⊥) → AreNamesApart ds
apart_names ds none i j d l lj same =
    let x = get_or ds i d in
    let y = get_or ds j d in
    elim (package_or y.kind) [
      | inl py ↦ elim (package_or x.kind) [
        | inl px ↦ (px, py)
        | inr ne ↦ absurd (none (fault x.place 13) (of_package x y (contains_at ds i d (omega (arith, l, lj))) (contains_at ds j d lj) ne py same))
      ]
      | inr ne ↦ absurd (none (fault y.place 13) (earlier y (i, j, d, l, lj, refl, same) ne))
    ]

-- ---- file by file

module _ (text : At → List ℕ) where
  abbrev pub own : ℕ → ReadOf → List Named
  own n r = map (named_as n (λ i. text (at n i))) (package_first (items_in r.tree))

  abbrev pub every : ℕ → List ReadOf → List Named
  every n rs = tree_named text n (map names_in rs)

  pub own_file : (n : ℕ) (r : ReadOf) (x : Named) → Contains (own n r) x → x.place.file ≡ n
  own_file n r x c = let w = from_map (named_as n (λ i. text (at n i))) (package_first (items_in r.tree)) x c in sym (ap (λ (z : Named). z.place.file) w.2)

  -- a declaration of one of the files
  pub from_every : (n : ℕ) (rs : List ReadOf) (x : Named) → Contains (every n rs) x → (k : ℕ) × (k < length rs) × Contains (own (n + k) (read_at rs k)) x
  from_every n [] x c = absurd (omega (arith, c.1))
  from_every n (r ∷ rs) x c = elim (Contains-append_cases (own n r) (every (suc n) rs) x c) [
    | inl h ↦ let z : n ≡ n + 0 = omega arith in (0, omega arith, subst (λ m. Contains (own m r) x) z h)
    | inr t ↦
        let w = from_every (suc n) rs x t in
        let z : suc n + w.0 ≡ n + suc w.0 = omega arith in
        (suc w.0, omega (arith, w.1), subst (λ m. Contains (own m (read_at rs w.0)) x) z w.2)
  ]

  pub to_every : (n k : ℕ) (rs : List ReadOf) (x : Named) → k < length rs → Contains (own (n + k) (read_at rs k)) x → Contains (every n rs) x
  to_every n k [] x l c = absurd (omega (arith, l))
  to_every n zero (r ∷ rs) x l c =
      let z : n + 0 ≡ n = omega arith in
      Contains-append_left (own n r) (every (suc n) rs) x (subst (λ m. Contains (own m r) x) z c)
  to_every n (suc k) (r ∷ rs) x l c =
      let z : n + suc k ≡ suc n + k = omega arith in
      Contains-append_right (own n r) (every (suc n) rs) x (to_every (suc n) k rs x (omega (arith, l)) (subst (λ m. Contains (own m (read_at rs k)) x) z c))

  -- the names of one of the files are apart where all are
  pub own_apart : (n k : ℕ) (rs : List ReadOf) → k < length rs → AreNamesApart (every n rs) → AreNamesApart (own (n + k) (read_at rs k))
  own_apart n k [] l h = absurd (omega (arith, l))
  own_apart n zero (r ∷ rs) l h =
      let z : n ≡ n + 0 = omega arith in
      subst (λ m. AreNamesApart (own m r)) z (pairs_left (λ x y. x.name ≡ y.name → AreBothPackages x y) (own n r) (every (suc n) rs) h)
  own_apart n (suc k) (r ∷ rs) l h =
      let z : suc n + k ≡ n + suc k = omega arith in
      subst (λ m. AreNamesApart (own m (read_at rs k))) z
      (own_apart (suc n) k rs (omega (arith, l)) (pairs_right (λ x y. x.name ≡ y.name → AreBothPackages x y) (own n r) (every (suc n) rs) h))

  -- and all are where those of each are, and those of one and a later one
  pub every_apart : (n : ℕ) (rs : List ReadOf) → ((k : ℕ) → k < length rs → AreNamesApart (own (n + k) (read_at rs k)))
      → ((j k : ℕ) (x y : Named) → j < k → k < length rs → Contains (own (n + j) (read_at rs j)) x → Contains (own (n + k) (read_at rs k)) y → x.name ≡ y.name → AreBothPackages x y)
      → AreNamesApart (every n rs)
  every_apart n [] each across = λ i j d l lj same. absurd (omega (arith, lj))
  every_apart n (r ∷ rs) each across =
      let z : n + 0 ≡ n = omega arith in
      let up : (k : ℕ) → n + suc k ≡ suc n + k = λ k. omega arith in
      pairs_append (λ x y. x.name ≡ y.name → AreBothPackages x y) (own n r) (every (suc n) rs)
      (subst (λ m. AreNamesApart (own m r)) z (each 0 (omega arith)))
      (every_apart (suc n) rs
      (λ k l. subst (λ m. AreNamesApart (own m (read_at rs k))) (up k) (each (suc k) (omega (arith, l))))
      (λ j k x y l lk cx cy. across (suc j) (suc k) x y (omega (arith, l)) (omega (arith, lk)) (subst (λ m. Contains (own m (read_at rs j)) x) (sym (up j)) cx) (subst (λ m. Contains (own m (read_at rs k)) y) (sym (up k)) cy)))
      (λ x y cx cy.
      (let w = from_every (suc n) rs y cy in
      across 0 (suc w.0) x y (omega arith) (omega (arith, w.1)) (subst (λ m. Contains (own m r) x) (sym z) cx) (subst (λ m. Contains (own m (read_at rs w.0)) y) (sym (up w.0)) w.2)))

-- ---- of files that are read

module _ (files : List FileOf) (reads : List ReadOf) (are : AreRead files reads) where
  abbrev pub all : List Named
  all = every (text_of files reads) 0 reads

  pub spans : AreSpans (map names_in reads)
  spans k d l =
      let m : k < length reads = omega (arith, l, length-map reads names_in) in
      let r : ReadOf = record { tokens = []; tree = End } in
      let in_files : k < length files = omega (arith, m, are.same) in
      subst (λ (f : FileNames). (low high : ℕ) × ItemsSpan low high f.items) (sym (get_or-map names_in reads k r d m))
      (tree_span (file_at files k).profile (file_at files k).bytes (read_at reads k).tokens (read_at reads k).tree (are.trees k in_files))

  pub index_to_files : (t : Table) → IsIndexOf t (map symbol_named all) → IsIndexOf t (names_of_files files reads).symbols
  index_to_files t index =
      index_same t (map symbol_named all) (names_of_files files reads).symbols
      (λ s. (same_symbols (text_of files reads) (map names_in reads) spans s).0) (λ s. (same_symbols (text_of files reads) (map names_in reads) spans s).1) index

  pub index_from_files : (t : Table) → IsIndexOf t (names_of_files files reads).symbols → IsIndexOf t (map symbol_named all)
  index_from_files t index =
      index_same t (names_of_files files reads).symbols (map symbol_named all)
      (λ s. (same_symbols (text_of files reads) (map names_in reads) spans s).1) (λ s. (same_symbols (text_of files reads) (map names_in reads) spans s).0) index

  pub apart_from_clean : NoNameClashes files reads → AreNamesApart all
  apart_from_clean clean = apart_names all (λ f h. clean f ((clashes_are_faults (text_of files reads) (map names_in reads) spans f).0 h))

  pub clean_from_apart : AreNamesApart all → NoNameClashes files reads
  clean_from_apart apart = λ f h. none_clash all apart f ((clashes_are_faults (text_of files reads) (map names_in reads) spans f).1 h)
