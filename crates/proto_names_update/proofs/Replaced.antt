-- The table of the names of files, once those of some were put in again in place of what they were.
use Rattle.std.proofs.Common.{◌≡◌, ◌≢◌, ◌⊎◌, ℕ, suc, ◌+◌, ◌<◌, ◌≤◌, ◌==◌, ◌||◌, Bool, true, false, cond, not, List, [], ◌∷◌, ◌++◌, length, get_or, map, refl, sym, ◌∙◌, ap, ap₂, subst, inl, inr, arith, flat_map, filter, All, Contains}
use Rattle.std.proofs.lemmas.List.Kept.{AllPairs-filter}
use Rattle.proto_case.specs.Camel.{entry_name}
use Rattle.proto_base.proofs.Common.{Contains-append_cases, Contains-append_left, Contains-append_right, cases_Bool, contains_filter, contains_map, from_filter, from_map, get_or-map, get_or_default, length-map, list_any, both_ways, not-true, not_from_false, or_cases, or_parts, or_right}
use Rattle.proto_files.proofs.Common.{AreRead, FileOf, ReadOf, file_at, one_reading, read_at}
use Rattle.proto_names_imports.specs.Links.{link_skeleton, names_in, text_of}
use Rattle.proto_names_imports.proofs.NumberedFiles.{IsNumbered, file_there, numbered}
use Rattle.proto_names_outline.proofs.Common.{items_in, package_first, whole}
use Rattle.proto_names_rules.proofs.Common.{ArePlain, At, Declared, EntryOf, FileAt, FileNames, Given, Placed, Source, Symbol, Token, at, declared_to, declares, file_placed, front, is_package, joined, joined_apart, map_map, name_of, names_apart, package_from, place_from, place_of, shifted_source}
use Rattle.proto_names_rules.proofs.Files.{declared_from}
use Rattle.proto_names_rules.specs.declared.kind.Kind.TheVariants.{Package}
use Rattle.proto_names_update.specs.Edited.{AreSameBut}
use Rattle.proto_names_update.specs.Relinked.{NoNameClashes}
use Rattle.proto_names_table.proofs.Common.{IsIndexOf, IsTable, Named, IsRowAt, aboves_of, as_named, declared_is_named, files_of, look, named_as, names_of, pick, symbol_named}
use Rattle.proto_names_table.proofs.Held.{index_same}
use Rattle.proto_names_table.proofs.Naming.{contains_at}
use Rattle.proto_names_table.specs.Filling.{AreNamesApart, Holds}
use Rattle.proto_names_table.specs.declared.table.Row.{Row}
use Rattle.proto_names_table.specs.declared.table.Symbol.{Symbol as Declaration}
use Rattle.proto_names_table.specs.declared.table.Table.{Table}
use Rattle.proto_text.specs.Texts.{words}
use Rattle.proto_tree.specs.Reads.{ReadsIn}
use Rattle.proto_names_update.specs.Forgetting.{AreForgotten, AreLeft, Goes}
use Rattle.proto_names_update.specs.NamesOfFiles.{AreNamesOf, RowIsDeclaredIn, WereNames, declared_by, declared_names}
use Rattle.proto_names_update.specs.RenewedNames.{AreFilesAgain, AreRenewed, AreRowsAgain, rows_at, rows_with}
use Rattle.proto_names_update.proofs.FilesDeclare.{AreBothPackages, all, apart_from_clean, clean_from_apart, every_apart, from_every, index_from_files, index_to_files, one_or_packages, own, own_apart, own_file, pairs_right, spans, to_every}
use Rattle.proto_names_update.proofs.Leaving.{index_left, name_same, row_same}
use Rattle.proto_names_update.proofs.Places.{contains_or_not, from_listed, is_listed, not_listed}
use Rattle.proto_names_update.proofs.RowsPut.{flat_pairs, from_flat_map, rows_else, rows_put, to_flat_map}

-- ---- paths in one file

place_file : (n x : ℕ) (path : List (Source ℕ)) → (place_from (at n x) (map (shifted_source (at n)) path)).file ≡ n
place_file n x [] = refl
place_file n x (Token t ∷ rest) = place_file n t rest
place_file n x (EntryOf t ∷ rest) = place_file n t rest
place_file n x (Given w ∷ rest) = place_file n x rest

same_name : (text now : At → List ℕ) (file : ℕ) → ((i : ℕ) → now (at file i) ≡ text (at file i)) → (path : List (Source ℕ)) → name_of now entry_name (map (shifted_source (at file)) path) ≡ name_of text entry_name (map (shifted_source (at file)) path)
same_name text now file same [] = refl
same_name text now file same (Token i ∷ path) = ap₂ (λ (w : List ℕ) (n : List (List ℕ)). w ∷ n) (same i) (same_name text now file same path)
same_name text now file same (EntryOf i ∷ path) = ap₂ (λ (w : List ℕ) (n : List (List ℕ)). entry_name w ∷ n) (same i) (same_name text now file same path)
same_name text now file same (Given w ∷ path) = ap (λ (n : List (List ℕ)). w ∷ n) (same_name text now file same path)

-- ---- what a file declares, and that files which are not edited declare the same

abbrev declares_at : FileOf → ReadOf → ℕ → List Named
declares_at f r file = map (named_as file (λ i. words f.bytes r.tokens i)) (package_first (items_in r.tree))

pub names_are : (files : List FileOf) (reads : List ReadOf) (k : ℕ) → map (λ d. d.name) (declared_by files reads k) ≡ declared_names files reads k
names_are files reads k = map_map (named_as k (λ i. text_of files reads (at k i))) (λ (d : Named). d.name) (package_first (items_in (read_at reads k).tree))

module _ (files : List FileOf) (reads : List ReadOf) (are : AreRead files reads) where
  -- a declaration of the files is one of a file's
  pub from_all : (x : Named) → Contains (all files reads are) x → (k : ℕ) × (k < length files) × Contains (declared_by files reads k) x × (x.place.file ≡ k)
  from_all x c =
      let w = from_every (text_of files reads) 0 reads x c in
      let z : 0 + w.0 ≡ w.0 = omega arith in
      let here = subst (λ m. Contains (own (text_of files reads) m (read_at reads w.0)) x) z w.2 in
      (w.0, omega (arith, w.1, are.same), here, own_file (text_of files reads) w.0 (read_at reads w.0) x here)

  pub to_all : (k : ℕ) (x : Named) → k < length files → Contains (declared_by files reads k) x → Contains (all files reads are) x
  to_all k x l c =
      let z : k ≡ 0 + k = omega arith in
      to_every (text_of files reads) 0 k reads x (omega (arith, l, are.same)) (subst (λ m. Contains (own (text_of files reads) m (read_at reads k)) x) z c)

  pub file_is : (k : ℕ) (x : Named) → Contains (declared_by files reads k) x → x.place.file ≡ k
  file_is k x c = own_file (text_of files reads) k (read_at reads k) x c

  pub apart_in : (k : ℕ) → k < length files → AreNamesApart (all files reads are) → AreNamesApart (declared_by files reads k)
  apart_in k l h =
      let z : 0 + k ≡ k = omega arith in
      subst (λ m. AreNamesApart (own (text_of files reads) m (read_at reads k))) z (own_apart (text_of files reads) 0 k reads (omega (arith, l, are.same)) h)

  pub apart_all : ((k : ℕ) → k < length files → AreNamesApart (declared_by files reads k))
      → ((j k : ℕ) (x y : Named) → j < k → k < length files → Contains (declared_by files reads j) x → Contains (declared_by files reads k) y → x.name ≡ y.name → AreBothPackages x y)
      → AreNamesApart (all files reads are)
  apart_all each across =
      let z : (k : ℕ) → k ≡ 0 + k = λ k. omega arith in
      every_apart (text_of files reads) 0 reads
      (λ k l. subst (λ m. AreNamesApart (own (text_of files reads) m (read_at reads k))) (z k) (each k (omega (arith, l, are.same))))
      (λ j k x y l lk cx cy. across j k x y l (omega (arith, lk, are.same)) (subst (λ m. Contains (own (text_of files reads) m (read_at reads j)) x) (sym (z j)) cx) (subst (λ m. Contains (own (text_of files reads) m (read_at reads k)) y) (sym (z k)) cy))

module _ (places : List ℕ) (before : List FileOf) (was : List ReadOf) (files : List FileOf) (reads : List ReadOf) (same : AreSameBut places before files) (were : AreRead before was) (are : AreRead files reads) where
  pub many : length before ≡ length files
  many = sym (length-map before (λ (f : FileOf). f.path)) ∙ ap length same.paths ∙ length-map files (λ (f : FileOf). f.path)

  pub same_reading : (k : ℕ) → k < length files → (Contains places k → ⊥) → read_at was k ≡ read_at reads k
  same_reading k l out =
      one_reading (file_at files k).profile (file_at files k).bytes (read_at was k) (read_at reads k)
      (subst (λ (f : FileOf). ReadsIn f.profile f.bytes (read_at was k).tokens (read_at was k).tree) (same.others k l out) (were.trees k (omega (arith, l, many)))) (are.trees k l)

  pub same_declared : (k : ℕ) → k < length files → (Contains places k → ⊥) → declared_by before was k ≡ declared_by files reads k
  same_declared k l out = ap (λ (f : FileOf). declares_at f (read_at was k) k) (same.others k l out) ∙ ap (λ (r : ReadOf). declares_at (file_at files k) r k) (same_reading k l out)

-- ---- the table before

-- a row that has a file is declared
has_file : (r : Row) (file : ℕ) → Contains (files_of r) file → r.is_declared ≡ true
has_file r file c = elim (cases_Bool r.is_declared) [
  | inl h ↦ h
  | inr h ↦ let none : files_of r ≡ [] = ap (λ b. cond b (r.symbol.file ∷ r.more.items) []) h in absurd (omega (arith, (subst (λ z. Contains z file) none c).1))
]

module _ (before : List FileOf) (was : List ReadOf) (were : AreRead before was) (clean : NoNameClashes before was) (t : Table) (rows : List (List ℕ)) (ok : IsTable t) (names : AreNamesOf before was t rows)
    (inside : (k row : ℕ) → Contains (get_or rows k []) row → row < length t.rows.items) where
  abbrev olds : List Named
  olds = all before was were

  apart : AreNamesApart olds
  apart = apart_from_clean before was were clean

  index : IsIndexOf t (map symbol_named olds)
  index = index_from_files before was were t names.index

  plain : (x : Named) → Contains olds x → ArePlain x.name
  plain x c = index.plain (symbol_named x) (contains_map symbol_named olds x c)

  named : length (names_of t) ≡ length t.rows.items
  named = length-map t.rows.items (λ (r : Row). r.name)

  -- the row with the name of a declaration has its kind
  kind_of : (x : Named) → Contains olds x → (row : ℕ) → row < length t.rows.items → get_or (names_of t) row [] ≡ joined x.name → (d : Row) → (get_or t.rows.items row d).symbol.kind ≡ x.kind
  kind_of x c row l e d =
      let o = index.row (symbol_named x) (contains_map symbol_named olds x c) in
      let one : o.0 ≡ row = names_apart (names_of t) (aboves_of t) (look t) ok.forest o.0 row (omega (arith, o.1, named)) (omega (arith, l, named)) (o.2 ∙ sym e) in
      ap (λ i. (get_or t.rows.items i d).symbol.kind) (sym one) ∙ (o.3 d).0

  -- and is declared
  declared_of : (x : Named) → Contains olds x → (row : ℕ) → row < length t.rows.items → get_or (names_of t) row [] ≡ joined x.name → (d : Row) → (get_or t.rows.items row d).is_declared ≡ true
  declared_of x c row l e d =
      let o = index.row (symbol_named x) (contains_map symbol_named olds x c) in
      let one : o.0 ≡ row = names_apart (names_of t) (aboves_of t) (look t) ok.forest o.0 row (omega (arith, o.1, named)) (omega (arith, l, named)) (o.2 ∙ sym e) in
      has_file (get_or t.rows.items row d) x.place.file (subst (λ i. Contains (files_of (get_or t.rows.items i d)) x.place.file) one (o.3 d).1)

  -- a row of a file is that of one of its declarations
  abbrev IsRowOfOne : ℕ → ℕ → Type 0
  IsRowOfOne k row = (x : Named) × Contains (declared_by before was k) x × (get_or (names_of t) row [] ≡ joined x.name) × ((d : Row) → (get_or t.rows.items row d).is_declared ≡ true)

  count : (k : ℕ) → k < length before → length (declared_by before was k) ≡ length (get_or rows k [])
  count k l = sym (length-map (declared_by before was k) (λ (d : Named). d.name)) ∙ ap length (names_are before was k) ∙ names.counts k l

  name_at : (k j : ℕ) (d : Named) → k < length before → j < length (get_or rows k []) → get_or (names_of t) (get_or (get_or rows k []) j 0) [] ≡ joined (get_or (declared_by before was k) j d).name
  name_at k j d l lj =
      let row = get_or (get_or rows k []) j 0 in
      let next : suc row ≡ row + 1 = omega arith in
      let there : get_or (declared_names before was k) j [] ≡ (get_or (declared_by before was k) j d).name =
      ap (λ ns. get_or ns j []) (sym (names_are before was k)) ∙ get_or-map (λ (x : Named). x.name) (declared_by before was k) j d [] (omega (arith, lj, count k l)) in
      ap (front (names_of t)) next ∙ names.named k j l lj ∙ ap joined there

  declaration_at : (k row : ℕ) → k < length before → Contains (get_or rows k []) row → IsRowOfOne k row
  declaration_at k row l c =
      let own_rows = get_or rows k [] in
      let d = pick (declared_by before was k) c.0 (omega (arith, c.1, count k l)) in
      let is : get_or own_rows c.0 0 ≡ row = get_or_default own_rows c.0 0 row c.1 ∙ c.2 in (
        get_or (declared_by before was k) c.0 d,
        contains_at (declared_by before was k) c.0 d (omega (arith, c.1, count k l)),
        ap (λ i. get_or (names_of t) i []) (sym is) ∙ name_at k c.0 d l c.1,
        λ r. subst (λ i. (get_or t.rows.items i r).is_declared ≡ true) is (names.declared k c.0 r l c.1),
      )

  -- and each of its declarations has one
  row_of : (k : ℕ) (x : Named) → k < length before → Contains (declared_by before was k) x → (row : ℕ) × Contains (get_or rows k []) row × (get_or (names_of t) row [] ≡ joined x.name)
  row_of k x l c =
      let own_rows = get_or rows k [] in
      let lj : c.0 < length own_rows = omega (arith, c.1, count k l) in
      (get_or own_rows c.0 0, contains_at own_rows c.0 0 lj, name_at k c.0 x l lj ∙ ap (λ (z : Named). joined z.name) c.2)

  module _ (places : List ℕ) (placed : (p : ℕ) → Contains places p → p < length before) where
    abbrev gone : List ℕ
    gone = rows_at rows places

    gone_within : (row : ℕ) → Contains gone row → row < length t.rows.items
    gone_within row c = let w = from_flat_map (λ p. get_or rows p []) places row c in inside w.0 row w.2

    -- what goes is of a file at one of the places
    going : (x : Named) → Contains olds x → (row : ℕ) → Goes gone t row → get_or (names_of t) row [] ≡ joined x.name → Contains places x.place.file × (x.kind ≢ Package)
    going x c row g e =
        let w = from_flat_map (λ p. get_or rows p []) places row g.listed in
        let l = inside w.0 row w.2 in
        let d = pick t.rows.items row l in
        let o = declaration_at w.0 row (placed w.0 w.1) w.2 in
        let there = to_all before was were w.0 o.0 (placed w.0 w.1) o.1 in
        let name : x.name ≡ o.0.name = joined_apart x.name o.0.name (plain x c) (plain o.0 there) (sym e ∙ o.2) in
        let other : x.kind ≢ Package = λ q. g.other d (kind_of x c row l e d ∙ q) in
        elim (one_or_packages olds x o.0 apart c there name) [
          | inl same ↦ (subst (Contains places) (sym (ap (λ (z : Named). z.place.file) same ∙ file_is before was were w.0 o.0 o.1)) w.1, other)
          | inr both ↦ absurd (other both.0)
        ]

    abbrev stays : Named → Bool
    stays x = is_package x.kind || not (list_any (λ p. p == x.place.file) places)

    abbrev lefts : List Named
    lefts = filter stays olds

    stays_elsewhere : (x : Named) → (Contains places x.place.file → ⊥) → stays x ≡ true
    stays_elsewhere x out =
        or_right (is_package x.kind) (not (list_any (λ p. p == x.place.file) places)) (not_from_false (list_any (λ p. p == x.place.file) places) (not_listed places x.place.file out))

    stays_or : (x : Named) → stays x ≡ true → (x.kind ≡ Package) ⊎ (Contains places x.place.file → ⊥)
    stays_or x h = elim (or_cases (is_package x.kind) (not (list_any (λ p. p == x.place.file) places)) h) [
      | inl p ↦ inl (package_from x.kind p)
      | inr q ↦ inr (λ c. both_ways (list_any (λ p. p == x.place.file) places) (not-true (list_any (λ p. p == x.place.file) places) q) (is_listed places x.place.file c))
    ]

    goes_or : (x : Named) → stays x ≡ false → (x.kind ≢ Package) × Contains places x.place.file
    goes_or x h =
        let r = or_parts (is_package x.kind) (not (list_any (λ p. p == x.place.file) places)) h in (
          λ e. both_ways (is_package x.kind) r.0 (ap is_package e),
          elim (cases_Bool (list_any (λ p. p == x.place.file) places)) [
            | inl f ↦ from_listed places x.place.file f
            | inr f ↦ absurd (both_ways (not (list_any (λ p. p == x.place.file) places)) r.1 (not_from_false (list_any (λ p. p == x.place.file) places) f))
          ],
        )

    left_are : AreLeft gone t (map symbol_named olds) (map symbol_named lefts)
    left_are s = (
      λ c. (
          let x = from_map symbol_named lefts s c in
          let f = from_filter stays olds x.0 x.1 in (
            subst (Contains (map symbol_named olds)) x.2 (contains_map symbol_named olds x.0 f.0),
            λ row g e.
                (let q = going x.0 f.0 row g (sym e ∙ sym (ap (λ (z : Symbol). joined z.name) x.2)) in
                elim (stays_or x.0 f.1) [ inl p ↦ q.1 p | inr out ↦ out q.0 ]),
          )),
      λ w. (
          let x = from_map symbol_named olds s w.0 in
          elim (cases_Bool (stays x.0)) [
            | inl h ↦ subst (Contains (map symbol_named lefts)) x.2 (contains_map symbol_named lefts x.0 (contains_filter stays olds x.0 x.1 h))
            | inr h ↦
                let q = goes_or x.0 h in
                let a = from_all before was were x.0 x.1 in
                let r = row_of a.0 x.0 a.1 a.2 in
                let l = inside a.0 r.0 r.1 in
                absurd (w.1 r.0
                (record {
                  listed = to_flat_map (λ p. get_or rows p []) places a.0 r.0 (subst (Contains places) a.3 q.1) r.1;
                  other = λ d e. q.0 (sym (kind_of x.0 x.1 r.0 l r.2 d) ∙ e);
                })
                (ap (λ (z : Symbol). joined z.name) (sym x.2) ∙ sym r.2))
          ]),
    )

    module _ (t1 : Table) (forgotten : AreForgotten gone t t1) where
      held_left : Holds t1 lefts
      held_left = record {
        index = index_left t t1 gone forgotten ok gone_within (map symbol_named olds) (map symbol_named lefts) index left_are;
        apart = AllPairs-filter (λ x y. x.name ≡ y.name → AreBothPackages x y) stays olds apart;
      }

      module _ (files : List FileOf) (reads : List ReadOf) (same : AreSameBut places before files) (are : AreRead files reads) (t2 : Table) (renewed : List (List ℕ)) (paired : length rows ≡ length files)
          (again : AreFilesAgain t1 t2 (declared_by files reads) places rows renewed) where
        abbrev news : List Named
        news = all files reads are

        abbrev put : List Named
        put = flat_map (declared_by files reads) places

        abbrev final : List Named
        final = lefts ++ put

        held : Holds t2 final
        held = again.beside.held lefts held_left

        as_many : length before ≡ length files
        as_many = many places before was files reads same were are

        size_before : length t1.rows.items ≡ length t.rows.items
        size_before = forgotten.size

        pub size_now : length t.rows.items ≤ length t2.rows.items
        size_now = let s = again.beside.kept.size in omega (arith, s, size_before)

        -- the names keep their numbers
        pub name_still : (row : ℕ) → row < length t.rows.items → get_or (names_of t2) row [] ≡ get_or (names_of t) row []
        name_still row l = again.beside.kept.names row (omega (arith, l, size_before)) ∙ name_same t t1 gone forgotten ok gone_within row l

        -- a row that does not go stays as it was declared
        row_still : (row : ℕ) (d : Row) → row < length t.rows.items → (Goes gone t row → ⊥) → (get_or t.rows.items row d).is_declared ≡ true
            → ((get_or t2.rows.items row d).symbol ≡ (get_or t.rows.items row d).symbol) × ((get_or t2.rows.items row d).is_declared ≡ true)
        row_still row d l out h =
            let e = row_same t t1 gone forgotten ok gone_within row d l out in
            let r = again.beside.kept.symbols row d (omega (arith, l, size_before)) (ap (λ (z : Row). z.is_declared) e ∙ h) in
            (r.0 ∙ ap (λ (z : Row). z.symbol) e, r.1)

        -- what another file declares is what it declared
        elsewhere : (k : ℕ) → k < length files → (Contains places k → ⊥) → declared_by before was k ≡ declared_by files reads k
        elsewhere k l out = same_declared places before was files reads same were are k l out

        -- the rows of the file at a place
        abbrev IsAgainAt : ℕ → Type 0
        IsAgainAt p = (own_rows : List ℕ) × (get_or (rows_with rows places renewed) p [] ≡ own_rows) × AreRowsAgain t1 t2 (declared_by files reads p) (get_or rows p []) own_rows

        again_at : (p : ℕ) → p < length files → Contains places p → IsAgainAt p
        again_at p l c =
            let a = rows_put rows places renewed p again.count (omega (arith, l, paired)) c in
            (get_or renewed a.at [], a.own, subst (λ q. AreRowsAgain t1 t2 (declared_by files reads q) (get_or rows q []) (get_or renewed a.at [])) a.place (again.each a.at a.within))

        -- ---- the declarations now

        in_final : (x : Named) → Contains news x → Contains final x
        in_final x c =
            let a = from_all files reads are x c in
            elim (contains_or_not places a.0) [
              | inl here ↦ Contains-append_right lefts put x (to_flat_map (declared_by files reads) places a.0 x here a.2)
              | inr out ↦
                  let was_it = to_all before was were a.0 x (omega (arith, a.1, as_many)) (subst (λ ds. Contains ds x) (sym (elsewhere a.0 a.1 out)) a.2) in
                  Contains-append_left lefts put x (contains_filter stays olds x was_it (stays_elsewhere x (λ q. out (subst (Contains places) a.3 q))))
            ]

        plain_final : (y : Named) → Contains final y → ArePlain y.name
        plain_final y c = held.index.plain (symbol_named y) (contains_map symbol_named final y c)

        -- a declaration that has the row of one before is the same symbol
        same_symbol : (x y : Named) (row : ℕ) → Contains olds x → Contains news y → y.place.file ≡ x.place.file → row < length t.rows.items → get_or (names_of t) row [] ≡ joined x.name
            → (Goes gone t row → ⊥) → IsRowAt t2 y row → symbol_named y ≡ symbol_named x
        same_symbol x y row cx cy file l name out there = λ i. record { name = texts i; kind = kinds i; file = file i }
          where
            texts : y.name ≡ x.name
            texts = joined_apart y.name x.name (plain_final y (in_final y cy)) (plain x cx) (sym there.name ∙ name_still row l ∙ name)

            z : Row
            z = pick t.rows.items row l

            kinds : y.kind ≡ x.kind
            kinds = sym (there.kind z) ∙ ap (λ (s : Declaration). s.kind) (row_still row z l out (declared_of x cx row l name z)).0 ∙ kind_of x cx row l name z

        -- the row of a package that a file at a place had is among those that it has
        row_again : (p row : ℕ) (b : IsAgainAt p) → Contains (get_or rows p []) row → row < length t.rows.items → (Goes gone t row → ⊥)
            → ((d : Row) → (get_or t.rows.items row d).is_declared ≡ true) → ((d : Row) → (get_or t.rows.items row d).symbol.kind ≡ Package) → Contains b.0 row
        row_again p row b c l out declared kind =
            b.2.packages row c (omega (arith, l, size_before))
            (λ d. ap (λ (r : Row). r.is_declared) (row_same t t1 gone forgotten ok gone_within row d l out) ∙ declared d)
            (λ d. ap (λ (r : Row). r.symbol.kind) (row_same t t1 gone forgotten ok gone_within row d l out) ∙ kind d)

        -- each of these rows is that of a declaration
        declaration_now : (p row : ℕ) (b : IsAgainAt p) → Contains b.0 row → (y : Named) × Contains (declared_by files reads p) y × IsRowAt t2 y row
        declaration_now p row b c =
            let ds = declared_by files reads p in
            let l : c.0 < length ds = let q = b.2.count in omega (arith, c.1, q) in
            let d = pick ds c.0 l in
            (get_or ds c.0 d, contains_at ds c.0 d l, subst (IsRowAt t2 (get_or ds c.0 d)) c.2 (b.2.each.each c.0 row d c.1))

        -- so a package that a file at a place had is among what it declares
        package_at : (x : Named) → Contains olds x → x.kind ≡ Package → (p : ℕ) → p < length before → Contains (declared_by before was p) x → x.place.file ≡ p → Contains places p → Contains (map symbol_named news) (symbol_named x)
        package_at x c own_kind p lb cx file here = from_row (row_of p x lb cx)
          where
            lp : p < length files
            lp = omega (arith, lb, as_many)

            b : IsAgainAt p
            b = again_at p lp here

            from_declaration : (row : ℕ) → row < length t.rows.items → get_or (names_of t) row [] ≡ joined x.name → (Goes gone t row → ⊥)
                → (y : Named) × Contains (declared_by files reads p) y × IsRowAt t2 y row → Contains (map symbol_named news) (symbol_named x)
            from_declaration row l name out y =
                subst (Contains (map symbol_named news))
                (same_symbol x y.0 row c (to_all files reads are p y.0 lp y.1) (file_is files reads are p y.0 y.1 ∙ sym file) l name out y.2)
                (contains_map symbol_named news y.0 (to_all files reads are p y.0 lp y.1))

            from_row : (row : ℕ) × Contains (get_or rows p []) row × (get_or (names_of t) row [] ≡ joined x.name) → Contains (map symbol_named news) (symbol_named x)
            from_row r =
                let l = inside p r.0 r.1 in
                let out : Goes gone t r.0 → ⊥ = λ g. g.other (pick t.rows.items r.0 l) (kind_of x c r.0 l r.2 (pick t.rows.items r.0 l) ∙ own_kind) in
                from_declaration r.0 l r.2 out (declaration_now p r.0 b (row_again p r.0 b r.1 l out (declared_of x c r.0 l r.2) (λ d. kind_of x c r.0 l r.2 d ∙ own_kind)))

        package_again : (x : Named) → Contains olds x → x.kind ≡ Package → Contains places x.place.file → Contains (map symbol_named news) (symbol_named x)
        package_again x c own_kind here = let a = from_all before was were x c in package_at x c own_kind a.0 a.1 a.2 a.3 (subst (Contains places) a.3 here)

        to_news : (s : Symbol) → Contains (map symbol_named final) s → Contains (map symbol_named news) s
        to_news s c =
            let x = from_map symbol_named final s c in
            subst (Contains (map symbol_named news)) x.2 (elim (Contains-append_cases lefts put x.0 x.1) [
              | inl h ↦
                  let f = from_filter stays olds x.0 h in
                  elim (contains_or_not places x.0.place.file) [
                    | inl here ↦ elim (stays_or x.0 f.1) [ inl own_kind ↦ package_again x.0 f.0 own_kind here | inr out ↦ absurd (out here) ]
                    | inr out ↦
                        let a = from_all before was were x.0 f.0 in
                        let lp : a.0 < length files = omega (arith, a.1, as_many) in
                        contains_map symbol_named news x.0 (to_all files reads are a.0 x.0 lp (subst (λ ds. Contains ds x.0) (elsewhere a.0 lp (λ q. out (subst (Contains places) (sym a.3) q))) a.2))
                  ]
              | inr h ↦
                  let w = from_flat_map (declared_by files reads) places x.0 h in
                  contains_map symbol_named news x.0 (to_all files reads are w.0 x.0 (let q = placed w.0 w.1 in omega (arith, q, as_many)) w.2)
            ])

        from_news : (s : Symbol) → Contains (map symbol_named news) s → Contains (map symbol_named final) s
        from_news s c = let x = from_map symbol_named news s c in subst (Contains (map symbol_named final)) x.2 (contains_map symbol_named final x.0 (in_final x.0 x.1))

        index_news : IsIndexOf t2 (map symbol_named news)
        index_news = index_same t2 (map symbol_named final) (map symbol_named news) to_news from_news held.index

        -- ---- no two clash

        own_apart_now : (k : ℕ) → k < length files → AreNamesApart (declared_by files reads k)
        own_apart_now k l = elim (contains_or_not places k) [
          | inl here ↦ flat_pairs (λ x y. x.name ≡ y.name → AreBothPackages x y) (declared_by files reads) places k (pairs_right (λ x y. x.name ≡ y.name → AreBothPackages x y) lefts put held.apart) here
          | inr out ↦ subst AreNamesApart (elsewhere k l out) (apart_in before was were k (omega (arith, l, as_many)) apart)
        ]

        pub clean_now : NoNameClashes files reads
        clean_now = clean_from_apart files reads are (apart_all files reads are own_apart_now (λ j k x y l lk cx cy name.
            (let lj : j < length files = omega (arith, l, lk) in
            elim (one_or_packages final x y held.apart (in_final x (to_all files reads are j x lj cx)) (in_final y (to_all files reads are k y lk cy)) name) [
              | inl one ↦ absurd (let e = sym (file_is files reads are j x cx) ∙ ap (λ (z : Named). z.place.file) one ∙ file_is files reads are k y cy in omega (arith, e, l))
              | inr both ↦ both
            ])))

        -- ---- the rows

        abbrev rows_now : List (List ℕ)
        rows_now = rows_with rows places renewed

        -- a row of a file elsewhere does not go
        not_gone : (k row : ℕ) → k < length files → (Contains places k → ⊥) → Contains (get_or rows k []) row → Goes gone t row → ⊥
        not_gone k row l out c g =
            let lb : k < length before = omega (arith, l, as_many) in
            let o = declaration_at k row lb c in
            let q = going o.0 (to_all before was were k o.0 lb o.1) row g o.2 in
            out (subst (Contains places) (file_is before was were k o.0 o.1) q.0)

        names_count : (k : ℕ) → length (declared_names files reads k) ≡ length (declared_by files reads k)
        names_count k = ap length (sym (names_are files reads k)) ∙ length-map (declared_by files reads k) (λ (d : Named). d.name)

        name_in : (k j : ℕ) (d : Named) (e : List (List ℕ)) → j < length (declared_by files reads k) → get_or (declared_names files reads k) j e ≡ (get_or (declared_by files reads k) j d).name
        name_in k j d e l = ap (λ ns. get_or ns j e) (sym (names_are files reads k)) ∙ get_or-map (λ (x : Named). x.name) (declared_by files reads k) j d e l

        plain_now : (k : ℕ) → k < length files → All ArePlain (declared_names files reads k)
        plain_now k l j e m =
            let ds = declared_by files reads k in
            let lj : j < length ds = omega (arith, m, names_count k) in
            let x = get_or ds j (pick ds j lj) in
            subst ArePlain (sym (name_in k j (pick ds j lj) e lj)) (index_news.plain (symbol_named x) (contains_map symbol_named news x (to_all files reads are k x l (contains_at ds j (pick ds j lj) lj))))

        count_now : (k : ℕ) → k < length files → length (declared_names files reads k) ≡ length (get_or rows_now k [])
        count_now k l = elim (contains_or_not places k) [
          | inl here ↦ let b = again_at k l here in names_count k ∙ sym b.2.count ∙ ap length (sym b.1)
          | inr out ↦ names_count k ∙ ap length (sym (elsewhere k l out)) ∙ count k (omega (arith, l, as_many)) ∙ ap length (sym (rows_else rows places renewed k out))
        ]

        -- the name of a row, of a file at a place or elsewhere
        text_now : (k j : ℕ) (d : Named) → k < length files → j < length (get_or rows_now k []) → get_or (names_of t2) (get_or (get_or rows_now k []) j 0) [] ≡ joined (get_or (declared_by files reads k) j d).name
        text_now k j d l lj = elim (contains_or_not places k) [
          | inl here ↦
              let b = again_at k l here in
              subst (λ rs. get_or (names_of t2) (get_or rs j 0) [] ≡ joined (get_or (declared_by files reads k) j d).name) (sym b.1) (b.2.each.each j 0 d (subst (λ (rs : List ℕ). j < length rs) b.1 lj)).name
          | inr out ↦
              let e = rows_else rows places renewed k out in
              let lb : k < length before = omega (arith, l, as_many) in
              let lr : j < length (get_or rows k []) = subst (λ (rs : List ℕ). j < length rs) e lj in
              let row = get_or (get_or rows k []) j 0 in
              subst (λ rs. get_or (names_of t2) (get_or rs j 0) [] ≡ joined (get_or (declared_by files reads k) j d).name) (sym e)
              (name_still row (inside k row (contains_at (get_or rows k []) j 0 lr)) ∙ name_at k j d lb lr ∙ ap (λ ds. joined (get_or ds j d).name) (elsewhere k l out))
        ]

        named_now : (k j : ℕ) → k < length files → j < length (get_or rows_now k []) → front (names_of t2) (get_or (get_or rows_now k []) j 0 + 1) ≡ joined (get_or (declared_names files reads k) j [])
        named_now k j l lj =
            let row = get_or (get_or rows_now k []) j 0 in
            let next : row + 1 ≡ suc row = omega arith in
            let ds = declared_by files reads k in
            let ld : j < length ds = omega (arith, lj, count_now k l, names_count k) in
            ap (front (names_of t2)) next ∙ text_now k j (pick ds j ld) l lj ∙ ap joined (sym (name_in k j (pick ds j ld) [] ld))

        declared_now : (k j : ℕ) (r : Row) → k < length files → j < length (get_or rows_now k []) → (get_or t2.rows.items (get_or (get_or rows_now k []) j 0) r).is_declared ≡ true
        declared_now k j r l lj = elim (contains_or_not places k) [
          | inl here ↦
              let b = again_at k l here in
              let lb : j < length b.0 = subst (λ (rs : List ℕ). j < length rs) b.1 lj in
              let d = pick (declared_by files reads k) j (let q = b.2.count in omega (arith, lb, q)) in
              subst (λ rs. (get_or t2.rows.items (get_or rs j 0) r).is_declared ≡ true) (sym b.1) ((b.2.each.each j 0 d lb).declared r)
          | inr out ↦
              let e = rows_else rows places renewed k out in
              let lr : j < length (get_or rows k []) = subst (λ (rs : List ℕ). j < length rs) e lj in
              let row = get_or (get_or rows k []) j 0 in
              let c = contains_at (get_or rows k []) j 0 lr in
              subst (λ rs. (get_or t2.rows.items (get_or rs j 0) r).is_declared ≡ true) (sym e)
              (row_still row r (inside k row c) (not_gone k row l out c) (names.declared k j r (omega (arith, l, as_many)) lr)).1
        ]

        -- ---- where each is declared

        token_elsewhere : (k : ℕ) (p : Placed) → k < length files → (Contains places k → ⊥) → Contains (file_placed (names_in (read_at reads k)).items) p → p.kind ≢ Package → RowIsDeclaredIn (text_of files reads) t2 (declares k p)
        token_elsewhere k p l out c other = from_row (names.tokens d within_old other)
          where
            d : Declared At
            d = declares k p

            reading : read_at was k ≡ read_at reads k
            reading = same_reading places before was files reads same were are k l out

            there : FileAt 0 (map names_in was) k (names_in (read_at was k))
            there =
                let z : 0 + k ≡ k = omega arith in
                subst (λ (m : ℕ). FileAt 0 (map names_in was) m (names_in (read_at was k))) z (file_there 0 was k (omega (arith, l, as_many, were.same)))

            within_old : Contains (link_skeleton before was).declared d
            within_old = declared_to 0 (map names_in was) k (names_in (read_at was k)) there p (subst (λ (r : ReadOf). Contains (file_placed (names_in r).items) p) (sym reading) c)

            x : Named
            x = as_named (text_of before was) d

            cx : Contains olds x
            cx = declared_is_named (text_of before was) (map names_in was) (spans before was were) d within_old

            file : x.place.file ≡ k
            file = place_file k 0 (whole p)

            text_same : (i : ℕ) → text_of files reads (at k i) ≡ text_of before was (at k i)
            text_same i = ap₂ (λ (f : FileOf) (r : ReadOf). words f.bytes r.tokens i) (sym (same.others k l out)) (sym reading)

            from_row : RowIsDeclaredIn (text_of before was) t d → RowIsDeclaredIn (text_of files reads) t2 d
            from_row o =
                let stay : Goes gone t o.row → ⊥ = λ g. out (subst (Contains places) file (going x cx o.row g o.name).0) in
                record {
                  row = o.row;
                  within = (let w = o.within in omega (arith, w, size_now));
                  name = name_still o.row o.within ∙ o.name ∙ ap joined (sym (same_name (text_of before was) (text_of files reads) k text_same (whole p)));
                  place = λ r. ap (λ (s : Declaration). at s.file s.token) (row_still o.row r o.within stay (declared_of x cx o.row o.within o.name r)).0 ∙ o.place r;
                }

        tokens_now : (d : Declared At) → Contains (link_skeleton files reads).declared d → d.kind ≢ Package → RowIsDeclaredIn (text_of files reads) t2 d
        tokens_now d c other = from_file (from_all files reads are x cx)
          where
            x : Named
            x = as_named (text_of files reads) d

            cx : Contains news x
            cx = declared_is_named (text_of files reads) (map names_in reads) (spans files reads are) d c

            at_place : (k : ℕ) → Contains (declared_by files reads k) x → IsAgainAt k → RowIsDeclaredIn (text_of files reads) t2 d
            at_place k a b =
                let lj : a.0 < length b.0 = let q = b.2.count in omega (arith, a.1, q) in
                let there : IsRowAt t2 x (get_or b.0 a.0 0) = subst (λ z. IsRowAt t2 z (get_or b.0 a.0 0)) a.2 (b.2.each.each a.0 0 x lj) in
                record { row = get_or b.0 a.0 0; within = there.within; name = there.name; place = there.place other }

            at_other : (k : ℕ) → x.place.file ≡ k → (Contains places k → ⊥) → (file : ℕ) (f : FileNames) (p : Placed) → declares file p ≡ d → Contains (file_placed f.items) p → IsNumbered 0 reads file f → RowIsDeclaredIn (text_of files reads) t2 d
            at_other k stands out file f p is cp i =
                let m : file ≡ i.place = omega (arith, i.file_is) in
                let l : i.place < length files = omega (arith, i.within, are.same) in
                let is_it : declares i.place p ≡ d = ap (λ (n : ℕ). declares n p) (sym m) ∙ is in
                let place : x.place.file ≡ i.place = ap (λ (z : Declared At). (place_of z).file) (sym is_it) ∙ place_file i.place 0 (whole p) in
                subst (RowIsDeclaredIn (text_of files reads) t2) is_it
                (token_elsewhere i.place p l (λ q. out (subst (Contains places) (sym place ∙ stands) q)) (subst (λ (g : FileNames). Contains (file_placed g.items) p) (sym i.names_are) cp)
                (λ e. other (sym (ap (λ (z : Declared At). z.kind) is_it) ∙ e)))

            from_file : (k : ℕ) × (k < length files) × Contains (declared_by files reads k) x × (x.place.file ≡ k) → RowIsDeclaredIn (text_of files reads) t2 d
            from_file a = elim (contains_or_not places a.0) [
              | inl here ↦ at_place a.0 a.2 (again_at a.0 a.1 here)
              | inr out ↦ let o = declared_from 0 (map names_in reads) d c in at_other a.0 a.3 out o.file o.f o.p o.is o.within (numbered 0 reads o.file o.f o.there)
            ]

        pub names_now : AreNamesOf files reads t2 rows_now
        names_now = record {
          index = index_to_files files reads are t2 index_news;
          plain = plain_now;
          counts = count_now;
          named = named_now;
          declared = declared_now;
          tokens = tokens_now;
        }

-- ---- all of it

module _ (places : List ℕ) (files : List FileOf) (t t1 t2 : Table) (rows renewed : List (List ℕ)) (ok : IsTable t) (inside : (k row : ℕ) → Contains (get_or rows k []) row → row < length t.rows.items)
    (placed : (p : ℕ) → Contains places p → p < length files) (paired : length rows ≡ length files) (were : WereNames places files t rows) (forgotten : AreForgotten (rows_at rows places) t t1)
    (reads : List ReadOf) (are : AreRead files reads) (again : (rs : List ReadOf) → AreRead files rs → AreFilesAgain t1 t2 (declared_by files rs) places rows renewed) where
  placed_before : (p : ℕ) → Contains places p → p < length were.before
  placed_before p c = let l = placed p c in omega (arith, l, many places were.before were.was files reads were.same were.were_read are)

  pub all_renewed : AreRenewed places files t t2 rows renewed
  all_renewed = record {
    count = (again reads are).count;
    within = λ k own l j row m.
        (let a = again reads are in
        let lk : k < length places = let q = a.count in omega (arith, l, q) in
        let r = a.each k lk in
        let is : get_or renewed k own ≡ get_or renewed k [] = get_or_default renewed k own [] l in
        let lj : j < length (get_or renewed k []) = subst (λ (z : List ℕ). j < length z) is m in
        let d = pick (declared_by files reads (get_or places k 0)) j (let q = r.count in omega (arith, lj, q)) in
        subst (λ (z : List ℕ). get_or z j row < length t2.rows.items) (sym is) (r.each.each j row d lj).within);
    size = size_now were.before were.was were.were_read were.apart t rows ok were.names inside places placed_before t1 forgotten files reads were.same are t2 renewed paired (again reads are);
    texts = λ k l. name_still were.before were.was were.were_read were.apart t rows ok were.names inside places placed_before t1 forgotten files reads were.same are t2 renewed paired (again reads are) k l;
    names = λ rs a. names_now were.before were.was were.were_read were.apart t rows ok were.names inside places placed_before t1 forgotten files rs were.same a t2 renewed paired (again rs a);
    clean = λ rs a. clean_now were.before were.was were.were_read were.apart t rows ok were.names inside places placed_before t1 forgotten files rs were.same a t2 renewed paired (again rs a);
  }
