-- The table of the names of files, and the rows of their declarations.
use Rattle.std.proofs.Common.{◌≡◌, ℕ, suc, ◌+◌, ◌<◌, List, [], length, get_or, map, sym, ◌∙◌, ap, subst, arith, All}
use Rattle.proto_base.proofs.Common.{Vec, get_or-map, length-map}
use Rattle.proto_files.proofs.Common.{AreRead, Each, FileOf, ReadOf, read_at}
use Rattle.proto_names_rules.proofs.Common.{ArePlain, At, at, front, joined, map_map}
use Rattle.proto_names_outline.proofs.Common.{items_in, length-read, package_first}
use Rattle.proto_names_outline.specs.declared.listing.Listing.{Listing}
use Rattle.proto_names_imports.specs.Links.{AreListings, names_in, names_of_files, text_of}
use Rattle.proto_names_table.proofs.Common.{AreRows, AreSpelled, IsIndexOf, Named, all_named, named_as, named_in, names_of, pick, same_symbols, symbol_named, tree_named}
use Rattle.proto_names_table.proofs.Held.{index_same}
use Rattle.proto_names_table.proofs.Naming.{named_length, named_plain}
use Rattle.proto_names_table.specs.declared.spelled.Spelled.{Spelled}
use Rattle.proto_names_table.specs.declared.table.Table.{Table}
use Rattle.proto_names_update.proofs.FilesDeclare.{spans}
use Rattle.proto_names_update.specs.NamesOfFiles.{declared_names}
use Rattle.proto_names_faults.specs.Common.{AreRowsOf}

-- what holds of an element holds of its image
at_image : {X Y : Type 0} (f : X → Y) (xs : List X) (k : ℕ) (e : Y) (P : Y → Type 0) → k < length xs → ((d : X) → P (f (get_or xs k d))) → P (get_or (map f xs) k e)
at_image f xs k e P l h = let d = pick xs k l in subst P (sym (get_or-map f xs k d e l)) (h d)

-- ---- what the files declare, with its last words

pub record AreSpelledOf (files : List FileOf) (fs : List (List Spelled)) : Type 0 where
  pub paired : length fs ≡ length files
  pub spelled : (k : ℕ) → k < length fs → AreSpelled (get_or fs k [])
  pub each : (reads : List ReadOf) → AreRead files reads → (k : ℕ) → k < length fs
      → named_in k (get_or fs k []) ≡ map (named_as k (λ i. text_of files reads (at k i))) (package_first (items_in (read_at reads k).tree))
  pub names : (reads : List ReadOf) → AreRead files reads → all_named 0 fs ≡ tree_named (text_of files reads) 0 (map names_in reads)

pub spelled_of : (files : List FileOf) (given ss : List (Vec Spelled)) → given ≡ ss → length ss ≡ length files → All (λ v. AreSpelled v.items) ss
    → ((reads : List ReadOf) → AreRead files reads
    → Each (λ k v. named_in k v.items ≡ map (named_as k (λ i. text_of files reads (at k i))) (package_first (items_in (read_at reads k).tree))) ss)
    → ((reads : List ReadOf) → AreRead files reads → all_named 0 (map (λ v. v.items) ss) ≡ tree_named (text_of files reads) 0 (map names_in reads))
    → AreSpelledOf files (map (λ v. v.items) given)
spelled_of files given ss same len spelled each names = subst (λ (xs : List (Vec Spelled)). AreSpelledOf files (map (λ v. v.items) xs)) (sym same) (record {
  paired = length-map ss (λ v. v.items) ∙ len;
  spelled = λ k l. (let m = within k l in at_image (λ v. v.items) ss k [] AreSpelled m (λ d. spelled k d m));
  each = λ reads are k l.
      (let m = within k l in
      at_image (λ v. v.items) ss k [] (λ s. named_in k s ≡ map (named_as k (λ i. text_of files reads (at k i))) (package_first (items_in (read_at reads k).tree))) m (λ d. each reads are k d m));
  names = names;
})
  where
    within : (k : ℕ) → k < length (map (λ v. v.items) ss) → k < length ss
    within k l = omega (arith, l, length-map ss (λ v. v.items))

-- ---- the files as they are read

module _ (files : List FileOf) (reads : List ReadOf) (are : AreRead files reads) where
  abbrev text : At → List ℕ
  text = text_of files reads

  pub index_of : (t : Table) (ds : List Named) → ds ≡ tree_named text 0 (map names_in reads) → IsIndexOf t (map symbol_named ds) → IsIndexOf t (names_of_files files reads).symbols
  index_of t ds e index =
      let fs = map names_in reads in
      index_same t (map symbol_named (tree_named text 0 fs)) (names_of_files files reads).symbols
      (λ s. (same_symbols text fs (spans files reads are) s).0) (λ s. (same_symbols text fs (spans files reads are) s).1)
      (subst (λ (xs : List Named). IsIndexOf t (map symbol_named xs)) e index)

  module _ (fs : List (List Spelled)) (spelled : AreSpelledOf files fs) where
    -- ---- one file

    names_are : (k : ℕ) → k < length fs → map (λ d. d.name) (named_in k (get_or fs k [])) ≡ declared_names files reads k
    names_are k l =
        ap (map (λ d. d.name)) (spelled.each reads are k l)
        ∙ map_map (named_as k (λ i. text (at k i))) (λ d. d.name) (package_first (items_in (read_at reads k).tree))

    plain_names : (k : ℕ) → k < length fs → All ArePlain (declared_names files reads k)
    plain_names k l = subst (All ArePlain) (names_are k l) plain
      where
        plain : All ArePlain (map (λ d. d.name) (named_in k (get_or fs k [])))
        plain j e m =
            let ds = named_in k (get_or fs k []) in
            let n : j < length ds = omega (arith, m, length-map ds (λ d. d.name)) in
            at_image (λ d. d.name) ds j e ArePlain n (λ d. named_plain k (get_or fs k []) j d (spelled.spelled k l) (omega (arith, n, named_length k (get_or fs k []))))

    names_count : (k : ℕ) → k < length fs → length (declared_names files reads k) ≡ length (get_or fs k [])
    names_count k l =
        let ds = named_in k (get_or fs k []) in
        ap length (sym (names_are k l)) ∙ length-map ds (λ d. d.name) ∙ named_length k (get_or fs k [])

    -- ---- the table

    module _ (t : Table) (rows : List (Vec ℕ)) (are_rows : AreRows t fs (map (λ v. v.items) rows)) where
      abbrev row_at : ℕ → ℕ → ℕ
      row_at k j = get_or (get_or (map (λ v. v.items) rows) k []) j 0

      row_named : (k j : ℕ) → k < length fs → j < length (get_or fs k []) → front (names_of t) (row_at k j + 1) ≡ joined (get_or (declared_names files reads k) j [])
      row_named k j l m =
          let ds = named_in k (get_or fs k []) in
          let d = pick ds j (omega (arith, m, named_length k (get_or fs k []))) in
          let next : row_at k j + 1 ≡ suc (row_at k j) = omega arith in
          let name : get_or (declared_names files reads k) j [] ≡ (get_or ds j d).name =
          ap (λ (ns : List (List (List ℕ))). get_or ns j []) (sym (names_are k l)) ∙ get_or-map (λ x. x.name) ds j d [] (omega (arith, m, named_length k (get_or fs k []))) in
          ap (front (names_of t)) next ∙ (are_rows.each k j 0 d l m).name ∙ ap joined (sym name)

      pub names_of_table : IsIndexOf t (map symbol_named (all_named 0 fs)) → AreRowsOf files reads t rows
      names_of_table index = record {
        index = index_of t (all_named 0 fs) (spelled.names reads are) index;
        plain = λ k l. plain_names k (in_list k l);
        counts = λ k l. names_count k (in_list k l) ∙ sym (are_rows.counts k (in_list k l));
        named = λ k j l m. row_named k j (in_list k l) (omega (arith, m, are_rows.counts k (in_list k l)));
      }
        where
          in_list : (k : ℕ) → k < length files → k < length fs
          in_list k l = omega (arith, l, spelled.paired)

-- ---- the rows

module _ (t : Table) (fs : List (List Spelled)) (rows : List (Vec ℕ)) (are_rows : AreRows t fs (map (λ v. v.items) rows)) where
  pub rows_paired : length rows ≡ length fs
  rows_paired = sym (length-map rows (λ v. v.items)) ∙ are_rows.paired

  row_count : (k : ℕ) (v : Vec ℕ) → k < length rows → length (get_or rows k v).items ≡ length (get_or fs k [])
  row_count k v l = ap length (sym (get_or-map (λ v. v.items) rows k v [] l)) ∙ are_rows.counts k (omega (arith, l, rows_paired))

  pub rows_within : All (λ v. All (λ r. r < length t.rows.items) v.items) rows
  rows_within k v l j r m =
      let in_list : k < length fs = omega (arith, l, rows_paired) in
      let n : j < length (get_or fs k []) = omega (arith, m, row_count k v l) in
      let d = pick (named_in k (get_or fs k [])) j (omega (arith, n, named_length k (get_or fs k []))) in
      subst (λ (own : List ℕ). get_or own j r < length t.rows.items) (get_or-map (λ v. v.items) rows k v [] l) (are_rows.each k j r d in_list n).within

  pub rows_listed : (files : List FileOf) (reads : List ReadOf) → AreRead files reads → AreSpelledOf files fs → (listings : List Listing) → AreListings files listings
      → Each (λ k v. (d : Listing) → length v.items ≡ length (get_or listings k d).declared.items) rows
  rows_listed files reads are spelled listings listed k v l d =
      let in_list : k < length fs = omega (arith, l, rows_paired) in
      let listing = listed.1 reads are k d (omega (arith, in_list, spelled.paired, listed.0)) in
      let ps = package_first (items_in (read_at reads k).tree) in
      let own = get_or listings k d in
      let names : length (get_or fs k []) ≡ length ps =
      sym (named_length k (get_or fs k [])) ∙ ap length (spelled.each reads are k in_list) ∙ length-map ps (named_as k (λ i. text_of files reads (at k i))) in
      row_count k v l ∙ names ∙ ap length (sym listing.declared) ∙ length-read own.declared.items
