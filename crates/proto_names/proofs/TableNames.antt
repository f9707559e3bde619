-- The table of the names of files, and the rows of their declarations.
use Rattle.std.proofs.Common.{◌≡◌, ◌≢◌, ℕ, suc, ◌+◌, ◌<◌, List, [], ◌∷◌, length, get_or, map, sym, ◌∙◌, ap, subst, inl, inr, arith, All, Contains}
use Rattle.proto_base.proofs.Common.{Vec, length-map, get_or-map, Contains-append_cases}
use Rattle.proto_files.proofs.Common.{FileOf, Each, AreRead, ReadOf, read_at}
use Rattle.proto_names.specs.Common.{declared_names, AreNamesOf, RowIsDeclaredIn}
use Rattle.proto_names_table.proofs.Common.{AreRows, IsRowAt, named_as, tree_named, IsIndexOf, AreSpelled, Named, all_named, named_in, symbol_named, names_of, as_named, declared_is_named, same_symbols, pick}
use Rattle.proto_names_rules.proofs.Common.{front, At, at, ArePlain, joined, Declared, map_map}
use Rattle.proto_names_outline.proofs.Common.{items_in, package_first, length-read}
use Rattle.proto_names_imports.specs.Links.{AreListings, link_skeleton, names_in, names_of_files, text_of}
use Rattle.proto_names_rules.specs.declared.kind.Kind.TheVariants.{Package}
use Rattle.proto_names_outline.specs.declared.listing.Listing.{Listing}
use Rattle.proto_names_table.specs.declared.spelled.Spelled.{Spelled}
use Rattle.proto_names_table.specs.declared.table.Table.{Table}
use Rattle.proto_names_update.proofs.FilesDeclare.{spans}
use Rattle.proto_names_table.proofs.Held.{index_same}
use Rattle.proto_names_table.proofs.Naming.{named_length, named_plain}

-- what holds of an element holds of its image
at_image : {X Y : Type 0} (f : X → Y) (xs : List X) (k : ℕ) (e : Y) (P : Y → Type 0) → k < length xs → ((d : X) → P (f (get_or xs k d))) → P (get_or (map f xs) k e)
at_image f xs k e P l h = let d = pick xs k l in subst P (sym (get_or-map f xs k d e l)) (h d)

-- ---- what the files declare, with its last words

pub record AreSpelledOf (files : List FileOf) (fs : List (List Spelled)) : Type 0 where
  pub paired : length fs ≡ length files
  pub spelled : (k : ℕ) → k < length fs → AreSpelled (get_or fs k [])
  pub each : (reads : List ReadOf) → AreRead files reads → (k : ℕ) → k < length fs
      → named_in k (get_or fs k []) ≡ map (named_as k (λ i. text_of files reads (at k i))) (package_first (items_in (read_at reads k).tree))
  pub names : (reads : List ReadOf) → AreRead files reads → all_named 0 fs ≡ tree_named (text_of files reads) 0 (map names_in reads)

pub spelled_of : (files : List FileOf) (given ss : List (Vec Spelled)) → given ≡ ss → length ss ≡ length files → All (λ v. AreSpelled v.items) ss
    → ((reads : List ReadOf) → AreRead files reads
    → Each (λ k v. named_in k v.items ≡ map (named_as k (λ i. text_of files reads (at k i))) (package_first (items_in (read_at reads k).tree))) ss)
    → ((reads : List ReadOf) → AreRead files reads → all_named 0 (map (λ v. v.items) ss) ≡ tree_named (text_of files reads) 0 (map names_in reads))
    → AreSpelledOf files (map (λ v. v.items) given)
spelled_of files given ss same len spelled each names = subst (λ (xs : List (Vec Spelled)). AreSpelledOf files (map (λ v. v.items) xs)) (sym same) (record {
  paired = length-map ss (λ v. v.items) ∙ len;
  spelled = λ k l. (let m = within k l in at_image (λ v. v.items) ss k [] AreSpelled m (λ d. spelled k d m));
  each = λ reads are k l.
      (let m = within k l in
      at_image (λ v. v.items) ss k [] (λ s. named_in k s ≡ map (named_as k (λ i. text_of files reads (at k i))) (package_first (items_in (read_at reads k).tree))) m (λ d. each reads are k d m));
  names = names;
})
  where
    within : (k : ℕ) → k < length (map (λ v. v.items) ss) → k < length ss
    within k l = omega (arith, l, length-map ss (λ v. v.items))

-- a declaration of the files is one of a file's
named_in_file : (n : ℕ) (fs : List (List Spelled)) (x : Named) → Contains (all_named n fs) x
    → (i k : ℕ) × (i < length fs) × (k < length (get_or fs i [])) × (get_or (named_in (n + i) (get_or fs i [])) k x ≡ x)
named_in_file n [] x c = absurd (omega (arith, c.1))
named_in_file n (f ∷ fs) x c = elim (Contains-append_cases (named_in n f) (all_named (suc n) fs) x c) [
  | inl a ↦
      let e : n ≡ n + 0 = omega arith in
      (0, a.0, omega arith, omega (arith, a.1, named_length n f), subst (λ (m : ℕ). get_or (named_in m f) a.0 x ≡ x) e a.2)
  | inr a ↦
      let r = named_in_file (suc n) fs x a in
      let e : suc n + r.0 ≡ n + suc r.0 = omega arith in
      (suc r.0, r.1, omega (arith, r.2), r.3, subst (λ (m : ℕ). get_or (named_in m (get_or fs r.0 [])) r.1 x ≡ x) e r.4)
]

-- ---- the files as they are read

module _ (files : List FileOf) (reads : List ReadOf) (are : AreRead files reads) where
  abbrev text : At → List ℕ
  text = text_of files reads

  pub index_of : (t : Table) (ds : List Named) → ds ≡ tree_named text 0 (map names_in reads) → IsIndexOf t (map symbol_named ds) → IsIndexOf t (names_of_files files reads).symbols
  index_of t ds e index =
      let fs = map names_in reads in
      index_same t (map symbol_named (tree_named text 0 fs)) (names_of_files files reads).symbols
      (λ s. (same_symbols text fs (spans files reads are) s).0) (λ s. (same_symbols text fs (spans files reads are) s).1)
      (subst (λ (xs : List Named). IsIndexOf t (map symbol_named xs)) e index)

  module _ (fs : List (List Spelled)) (spelled : AreSpelledOf files fs) where
    -- ---- one file

    names_are : (k : ℕ) → k < length fs → map (λ d. d.name) (named_in k (get_or fs k [])) ≡ declared_names files reads k
    names_are k l =
        ap (map (λ d. d.name)) (spelled.each reads are k l)
        ∙ map_map (named_as k (λ i. text (at k i))) (λ d. d.name) (package_first (items_in (read_at reads k).tree))

    plain_names : (k : ℕ) → k < length fs → All ArePlain (declared_names files reads k)
    plain_names k l = subst (All ArePlain) (names_are k l) plain
      where
        plain : All ArePlain (map (λ d. d.name) (named_in k (get_or fs k [])))
        plain j e m =
            let ds = named_in k (get_or fs k []) in
            let n : j < length ds = omega (arith, m, length-map ds (λ d. d.name)) in
            at_image (λ d. d.name) ds j e ArePlain n (λ d. named_plain k (get_or fs k []) j d (spelled.spelled k l) (omega (arith, n, named_length k (get_or fs k []))))

    names_count : (k : ℕ) → k < length fs → length (declared_names files reads k) ≡ length (get_or fs k [])
    names_count k l =
        let ds = named_in k (get_or fs k []) in
        ap length (sym (names_are k l)) ∙ length-map ds (λ d. d.name) ∙ named_length k (get_or fs k [])

    -- ---- the table

    module _ (t : Table) (rows : List (Vec ℕ)) (are_rows : AreRows t fs (map (λ v. v.items) rows)) where
      abbrev row_at : ℕ → ℕ → ℕ
      row_at k j = get_or (get_or (map (λ v. v.items) rows) k []) j 0

      row_named : (k j : ℕ) → k < length fs → j < length (get_or fs k []) → front (names_of t) (row_at k j + 1) ≡ joined (get_or (declared_names files reads k) j [])
      row_named k j l m =
          let ds = named_in k (get_or fs k []) in
          let d = pick ds j (omega (arith, m, named_length k (get_or fs k []))) in
          let next : row_at k j + 1 ≡ suc (row_at k j) = omega arith in
          let name : get_or (declared_names files reads k) j [] ≡ (get_or ds j d).name =
          ap (λ (ns : List (List (List ℕ))). get_or ns j []) (sym (names_are k l)) ∙ get_or-map (λ x. x.name) ds j d [] (omega (arith, m, named_length k (get_or fs k []))) in
          ap (front (names_of t)) next ∙ (are_rows.each k j 0 d l m).name ∙ ap joined (sym name)

      declared_row : (d : Declared At) → Contains (link_skeleton files reads).declared d → d.kind ≢ Package → RowIsDeclaredIn text t d
      declared_row d c other =
          let named = declared_is_named text (map names_in reads) (spans files reads are) d c in
          let here = named_in_file 0 fs (as_named text d) (subst (λ (ds : List Named). Contains ds (as_named text d)) (sym (spelled.names reads are)) named) in
          let zero_more : 0 + here.0 ≡ here.0 = omega arith in
          let is : get_or (named_in here.0 (get_or fs here.0 [])) here.1 (as_named text d) ≡ as_named text d =
          subst (λ (m : ℕ). get_or (named_in m (get_or fs here.0 [])) here.1 (as_named text d) ≡ as_named text d) zero_more here.4 in
          let row : IsRowAt t (as_named text d) (row_at here.0 here.1) =
          subst (λ (x : Named). IsRowAt t x (row_at here.0 here.1)) is (are_rows.each here.0 here.1 0 (as_named text d) here.2 here.3) in
          record { row = row_at here.0 here.1; within = row.within; name = row.name; place = row.place other }

      pub names_of_table : IsIndexOf t (map symbol_named (all_named 0 fs)) → AreNamesOf files reads t rows
      names_of_table index = record {
        index = index_of t (all_named 0 fs) (spelled.names reads are) index;
        plain = λ k l. plain_names k (in_list k l);
        counts = λ k l. names_count k (in_list k l) ∙ sym (are_rows.counts k (in_list k l));
        named = λ k j l m. row_named k j (in_list k l) (omega (arith, m, are_rows.counts k (in_list k l)));
        declared = λ k j r l m.
            (let n : j < length (get_or fs k []) = omega (arith, m, are_rows.counts k (in_list k l)) in
            let d = pick (named_in k (get_or fs k [])) j (omega (arith, n, named_length k (get_or fs k []))) in
            (are_rows.each k j 0 d (in_list k l) n).declared r);
        tokens = declared_row;
      }
        where
          in_list : (k : ℕ) → k < length files → k < length fs
          in_list k l = omega (arith, l, spelled.paired)

-- ---- the rows

module _ (t : Table) (fs : List (List Spelled)) (rows : List (Vec ℕ)) (are_rows : AreRows t fs (map (λ v. v.items) rows)) where
  pub rows_paired : length rows ≡ length fs
  rows_paired = sym (length-map rows (λ v. v.items)) ∙ are_rows.paired

  row_count : (k : ℕ) (v : Vec ℕ) → k < length rows → length (get_or rows k v).items ≡ length (get_or fs k [])
  row_count k v l = ap length (sym (get_or-map (λ v. v.items) rows k v [] l)) ∙ are_rows.counts k (omega (arith, l, rows_paired))

  pub rows_within : All (λ v. All (λ r. r < length t.rows.items) v.items) rows
  rows_within k v l j r m =
      let in_list : k < length fs = omega (arith, l, rows_paired) in
      let n : j < length (get_or fs k []) = omega (arith, m, row_count k v l) in
      let d = pick (named_in k (get_or fs k [])) j (omega (arith, n, named_length k (get_or fs k []))) in
      subst (λ (own : List ℕ). get_or own j r < length t.rows.items) (get_or-map (λ v. v.items) rows k v [] l) (are_rows.each k j r d in_list n).within

  pub rows_listed : (files : List FileOf) (reads : List ReadOf) → AreRead files reads → AreSpelledOf files fs → (listings : List Listing) → AreListings files listings
      → Each (λ k v. (d : Listing) → length v.items ≡ length (get_or listings k d).declared.items) rows
  rows_listed files reads are spelled listings listed k v l d =
      let in_list : k < length fs = omega (arith, l, rows_paired) in
      let listing = listed.1 reads are k d (omega (arith, in_list, spelled.paired, listed.0)) in
      let ps = package_first (items_in (read_at reads k).tree) in
      let own = get_or listings k d in
      let names : length (get_or fs k []) ≡ length ps =
      sym (named_length k (get_or fs k [])) ∙ ap length (spelled.each reads are k in_list) ∙ length-map ps (named_as k (λ i. text_of files reads (at k i))) in
      row_count k v l ∙ names ∙ ap length (sym listing.declared) ∙ length-read own.declared.items
