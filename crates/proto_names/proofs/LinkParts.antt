-- The parts of a link are those of its files: their names, what each file sees, and the references that mean each name.
use Rattle.std.proofs.Common.{◌≡◌, ℕ, suc, ◌+◌, ◌<◌, Bool, true, false, List, [], ◌∷◌, ◌++◌, length, get_or, map, option_map, Option, Some, None, refl, sym, ◌∙◌, ap, subst, arith, cond, ◌==◌, All, Contains, filter, bytes_eq, eqb-true, eq-eqb}
use Rattle.proto_base.proofs.Common.{Vec, get_or-map, length-map, map-append, filter-append, none-some, same_Some, same_from_word, word_from_same}
use Rattle.std.specs.Cmp.{both_ways}
use Rattle.proto_files.proofs.Common.{FileOf, ReadOf, AreRead}
use Rattle.proto_case.specs.Camel.{entry_name}
use Rattle.proto_names_rules.proofs.Common.{place_of, At, at, all_used, used_in, joined, ImportsAreOfFiles, Workspace, meaning, MarksSeen, Used, reference_of, names_apart}
use Rattle.proto_names.specs.Common.{AreFileMeant, uses_of, AreNamesOf, HoldsNames, IsLinkBy, has_text, reference_id, LinkOf, MeantBy, NameOf, all_meant, meant_in_file, name_at, name_of_row, references_to, AreMeant, RefId, Meant}
use Rattle.proto_names_imports.proofs.Common.{all_imports, link_imports, link_skeleton, names_in, names_of_files, text_of, import_in, imports_within}
use Rattle.proto_names_table.proofs.Common.{used_named, IsIndexOf, IsTable, aboves_of, look, names_of, pick}
use Rattle.proto_names.proofs.NamesThere.{declared_from, first_file, has_files, name_from, name_to, text_to}
use Rattle.proto_names_imports.specs.declared.import.FileImport.{FileImport}
use Rattle.proto_names_table.specs.declared.table.Table.{Table}

-- ---- rows and names

module _ (t : Table) (ok : IsTable t) where
  apart : (i j : ℕ) → i < length t.rows.items → j < length t.rows.items → get_or (names_of t) i [] ≡ get_or (names_of t) j [] → i ≡ j
  apart i j li lj e =
      let sized = length-map t.rows.items (λ r. r.name) in
      names_apart (names_of t) (aboves_of t) (look t) ok.forest i j (omega (arith, li, sized)) (omega (arith, lj, sized)) e

  module _ (l : LinkOf) (same : map name_of_row t.rows.items ≡ l.names) where
    pub one_row : (i j : ℕ) (n : NameOf) → name_at l i ≡ Some n → j < length t.rows.items → get_or (names_of t) j [] ≡ n.text → j ≡ i
    one_row i j n h lj e = let r = text_to t l same i n h in apart j i lj r.0 (e ∙ sym r.1)

    pub holds_names : (w : Workspace) → IsIndexOf t w.symbols → HoldsNames w l
    holds_names w index = record {
      plain = index.plain;
      declared = has_files l;
      there = λ s c.
          (let x = index.row s c in
          let d = pick t.rows.items x.0 x.1 in (
            x.0,
            name_of_row (get_or t.rows.items x.0 d),
            name_from t l same x.0 d x.1 (let c = (x.3 d).1 in omega (arith, c.1)),
            sym (get_or-map (λ y. y.name) t.rows.items x.0 d [] x.1) ∙ x.2,
            (x.3 d).0,
            (x.3 d).1,
          ));
      only = λ row file n h c.
          (let r = name_to t l same row n h in
          let d = pick t.rows.items row r.0 in
          let x = index.symbol row file d r.0 (subst (λ (y : NameOf). Contains y.files file) (sym (r.1 d)) c) in
          (x.0, x.1, x.2 ∙ (text_to t l same row n h).1, x.3 ∙ ap (λ (y : NameOf). y.kind) (r.1 d), x.4));
      once = λ i j m n hi hj e.
          (let r = text_to t l same i m hi in
          one_row j i n hj r.0 (r.1 ∙ e));
    }

-- ---- references

put : {X Z : Type 0} (f : X → Z) (b : Bool) (x : X) (xs : List X) → map f (cond b (x ∷ xs) xs) ≡ cond b (f x ∷ map f xs) (map f xs)
put f true x xs = refl
put f false x xs = refl

-- one that passes both tests, or neither, and others
pub one_more : {X Y Z : Type 0} (p : X → Bool) (q : Y → Bool) (f : X → Z) (g : Y → Z) (x : X) (y : Y) (xs : List X) (ys : List Y) → p x ≡ q y → f x ≡ g y → map f (filter p xs) ≡ map g (filter q ys) → map f (filter p (x ∷ xs)) ≡ map g (filter q (y ∷ ys))
one_more {Z = Z} p q f g x y xs ys test same rest =
    put f (p x) x (filter p xs)
    ∙ ap (λ (b : Bool). cond b (f x ∷ map f (filter p xs)) (map f (filter p xs))) test
    ∙ ap (λ (z : Z). cond (q y) (z ∷ map f (filter p xs)) (map f (filter p xs))) same
    ∙ ap (λ (zs : List Z). cond (q y) (g y ∷ zs) zs) rest
    ∙ sym (put g (q y) y (filter q ys))

module _ (text : At → List ℕ) (t : Table) (ok : IsTable t) (w : Workspace) (row : ℕ) (name : List ℕ) (within : row < length t.rows.items) (named : get_or (names_of t) row [] ≡ name) where
  -- the rows of what references mean are this one where the names are
  same_test : (o : Option (List (List ℕ))) (k : ℕ) → k < length t.rows.items → Some (get_or (names_of t) k []) ≡ option_map joined o → (k == row) ≡ has_text name o
  same_test None k l h = absurd (none-some (get_or (names_of t) k []) (sym h))
  same_test (Some m) k l h =
      let e = same_Some (get_or (names_of t) k []) (joined m) h in
      both_ways (k == row) (bytes_eq (joined m) name)
      (λ q. same_from_word (joined m) name (sym e ∙ ap (λ (i : ℕ). get_or (names_of t) i []) (eqb-true k row q) ∙ named))
      (λ q. eq-eqb k row (apart t ok k row l within (e ∙ word_from_same (joined m) name q ∙ sym named)))

  abbrev test : Used At → Bool
  test u = has_text name (meaning w (reference_of text entry_name u))

  abbrev Meanings : ℕ → List (Used ℕ) → List Meant → Type 0
  Meanings file us ms = AreMeant t w (map (used_named text file) us) (map (λ u. u.first) us) ms

  -- of one file
  in_file : (file : ℕ) (us : List (Used ℕ)) (ms : List Meant) → map (λ m. m.token) ms ≡ map (λ u. u.first) us → All (λ m. m.row < length t.rows.items) ms
      → map (λ m. Some (get_or (names_of t) m.row [])) ms ≡ map (λ r. option_map joined (meaning w r)) (map (used_named text file) us)
      → references_to row (map (meant_in_file file) ms) ≡ map reference_id (filter test (map (used_in file) us))
  in_file file [] [] tokens rows names = refl
  in_file file [] (m ∷ ms) tokens rows names = absurd (cc)
  in_file file (u ∷ us) [] tokens rows names = absurd (cc)
  in_file file (u ∷ us) (m ∷ ms) tokens rows names =
      let token : m.token ≡ u.first = cc in
      let here : Some (get_or (names_of t) m.row []) ≡ option_map joined (meaning w (used_named text file u)) = cc in
      let tokens_on : map (λ (x : Meant). x.token) ms ≡ map (λ (x : Used ℕ). x.first) us = cc in
      let names_on : map (λ (x : Meant). Some (get_or (names_of t) x.row [])) ms ≡ map (λ r. option_map joined (meaning w r)) (map (used_named text file) us) = cc in
      one_more (λ (x : MeantBy). x.row == row) test (λ (x : MeantBy). x.reference) reference_id (meant_in_file file m) (used_in file u) (map (meant_in_file file) ms) (map (used_in file) us)
      (same_test (meaning w (used_named text file u)) m.row (rows 0 m (omega arith)) here)
      (ap (λ (k : ℕ). let o : RefId = record { file = file; token = k } in o) token)
      (in_file file us ms tokens_on (λ k d l. rows (suc k) d (omega (arith, l))) names_on)

  pub in_files : (n : ℕ) (rs : List ReadOf) (mss : List (List Meant)) → length mss ≡ length rs → ((k : ℕ) → k < length rs → Meanings (n + k) (uses_of rs k) (get_or mss k []))
      → references_to row (all_meant n mss) ≡ map reference_id (filter test (all_used n (map names_in rs)))
  in_files n [] [] e h = refl
  in_files n [] (ms ∷ mss) e h = absurd (omega (arith, e))
  in_files n (r ∷ rs) [] e h = absurd (omega (arith, e))
  in_files n (r ∷ rs) (ms ∷ mss) e h =
      let us : List (Used ℕ) = (names_in r).used in
      let now : Meanings n us ms = subst (λ (m : ℕ). Meanings m us ms) (omega arith) (h 0 (omega arith)) in
      let later : (k : ℕ) → k < length rs → Meanings (suc n + k) (uses_of rs k) (get_or mss k []) =
      λ (k : ℕ) (l : k < length rs). subst (λ (m : ℕ). Meanings m (uses_of rs k) (get_or mss k [])) (omega arith) (h (suc k) (omega (arith, l))) in
      ap (map (λ (x : MeantBy). x.reference)) (filter-append (λ (x : MeantBy). x.row == row) (map (meant_in_file n) ms) (all_meant (suc n) mss))
      ∙ map-append (λ (x : MeantBy). x.reference) (filter (λ (x : MeantBy). x.row == row) (map (meant_in_file n) ms)) (filter (λ (x : MeantBy). x.row == row) (all_meant (suc n) mss))
      ∙ ap (λ (zs : List RefId). zs ++ references_to row (all_meant (suc n) mss)) (in_file n us ms now.places now.within now.names)
      ∙ ap (λ (zs : List RefId). map reference_id (filter test (map (used_in n) us)) ++ zs) (in_files (suc n) rs mss (omega (arith, e)) later)
      ∙ sym (map-append reference_id (filter test (map (used_in n) us)) (filter test (all_used (suc n) (map names_in rs))))
      ∙ ap (map reference_id) (sym (filter-append test (map (used_in n) us) (all_used (suc n) (map names_in rs))))

-- ---- the link

-- what is seen by the imports of the files
pub marks_seen : (files : List FileOf) (reads : List ReadOf) → AreRead files reads → (imports given : List (Vec FileImport)) (seen : List (List Bool)) → given ≡ imports → length imports ≡ length files → all_imports 0 (map (λ v. v.items) imports) ≡ link_imports files reads
    → ((w : Workspace) → w.files ≡ length given → w.imports ≡ all_imports 0 (map (λ v. v.items) given) → (k : ℕ) → k < length given → MarksSeen w k (get_or seen k []))
    → (k : ℕ) → k < length files → MarksSeen (names_of_files files reads) k (get_or seen k [])
marks_seen files reads are imports given seen e len same marks k l =
    let n : length given ≡ length files = ap length e ∙ len in
    marks (names_of_files files reads) (length-map reads names_in ∙ are.same ∙ sym n) (sym same ∙ ap (λ (vs : List (Vec FileImport)). all_imports 0 (map (λ v. v.items) vs)) (sym e)) k (omega (arith, l, n))

-- imports are between files
pub files_between : (files : List FileOf) (reads : List ReadOf) → AreRead files reads → (imports : List (Vec FileImport)) → length imports ≡ length files → All (λ v. All (λ i. i.to < length files) v.items) imports → all_imports 0 (map (λ v. v.items) imports) ≡ link_imports files reads
    → ImportsAreOfFiles (names_of_files files reads)
files_between files reads are imports len within same i c =
    let is = map (λ v. v.items) imports in
    let d : Contains (all_imports 0 is) i = subst (λ z. Contains z i) (sym same) c in
    let a = imports_within (λ v. v.items) (length files) imports within i d in
    let r = import_in 0 is i d in
    let b = r.1 in
    let e = r.2 in
    let n : (names_of_files files reads).files ≡ length files = length-map reads names_in ∙ are.same in
    (omega (arith, n, b, e, length-map imports (λ v. v.items), len), omega (arith, n, a))

module _ (files : List FileOf) (reads : List ReadOf) (are : AreRead files reads) (t : Table) (ok : IsTable t) (rows : List (Vec ℕ)) (names : AreNamesOf files reads t rows) where
  abbrev text : At → List ℕ
  text = text_of files reads

  abbrev w : Workspace
  w = names_of_files files reads

  pub is_link : (seen : List (List Bool)) (meant : List (List Meant)) (l : LinkOf) → map name_of_row t.rows.items ≡ l.names → seen ≡ l.seen → length seen ≡ length files → length meant ≡ length files → length l.references ≡ length l.names → ImportsAreOfFiles w
      → ((k : ℕ) → k < length files → MarksSeen w k (get_or seen k []))
      → ((k : ℕ) → k < length files → AreFileMeant t files reads k (get_or meant k []))
      → ((row : ℕ) → get_or l.references row [] ≡ references_to row (all_meant 0 meant))
      → IsLinkBy text (link_skeleton files reads) l
  is_link seen meant l same seen_is seen_len meant_len paired between marks meanings each =
      let sized : length (map names_in reads) ≡ length files = length-map reads names_in ∙ are.same in
      record {
        names = holds_names t ok l same w names.index;
        places = λ d c other row n h e.
            (let x = names.tokens d c other in
            let here : x.row ≡ row = one_row t ok l same row x.row n h x.within (x.name ∙ sym e) in
            let r = name_to t l same row n h in
            let r0 = pick t.rows.items row r.0 in
            let own = get_or t.rows.items row r0 in
            let some : own.is_declared ≡ true = declared_from own (subst (λ (y : NameOf). 0 < length y.files) (sym (r.1 r0)) (has_files l row n h)) in
            let place = subst (λ (k : ℕ). at (get_or t.rows.items k r0).symbol.file (get_or t.rows.items k r0).symbol.token ≡ place_of d) here (x.place r0) in
            ap (λ (y : NameOf). at (get_or y.files 0 0) y.token) (sym (r.1 r0)) ∙ ap (λ (f : ℕ). at f own.symbol.token) (first_file own some) ∙ place);
        seen = λ file lt. subst (λ (s : List (List Bool)). MarksSeen w file (get_or s file [])) seen_is (marks file (omega (arith, lt, sized)));
        files = ap length (sym seen_is) ∙ seen_len ∙ sym sized;
        between = between;
        paired = paired;
        references = λ row n h.
            (let r = text_to t l same row n h in
            each row
            ∙ in_files text t ok w row n.text r.0 r.1 0 reads meant (meant_len ∙ sym are.same)
            (λ (k : ℕ) (lk : k < length reads). subst (λ (m : ℕ). AreMeant t w (map (used_named text m) (uses_of reads k)) (map (λ u. u.first) (uses_of reads k)) (get_or meant k [])) (omega arith) (meanings k (omega (arith, lk, are.same)))));
      }
