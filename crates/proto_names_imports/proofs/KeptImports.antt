-- Files that keep their imports.
use Rattle.std.proofs.Common.{◌≡◌, ℕ, zero, suc, ◌+◌, ◌<◌, List, [], ◌∷◌, ◌++◌, length, map, option_map, Option, Some, None, refl, sym, ◌∙◌, ap, subst, inl, inr, arith, Contains, filter_map}
use Rattle.proto_base.proofs.Common.{Contains-append_left, Contains-append_right, Contains-append_cases, cons_option, contains_cases, contains_head, contains_later, from_map, filter_map-append, length-map, none-some, or_nothing, same_Some}
use Rattle.proto_text.proofs.Common.{value_of, words}
use Rattle.proto_tree.specs.Reads.{ReadsIn}
use Rattle.proto_files.proofs.Common.{FileOf, file_at, paths_of, ReadOf, read_at, AreRead, one_reading}
use Rattle.proto_names_outline.proofs.Common.{Wanted, imports_in}
use Rattle.proto_names_rules.specs.Faults as all
use Rattle.proto_names_imports.specs.ImportSteps as one
use Rattle.proto_names_rules.proofs.Common.{At, at, Import, IsAcyclic, Leads, Fault, AskedImport, AfterEarlier, ImportFault, file_with_path, import_from_asked, imports_of}
use Rattle.proto_names_imports.specs.ImportSteps.{PathFault}
use Rattle.proto_names_imports.specs.Laws.{wanted_by, KeepImports, HasSoundImports, KeptImportsAreEqual, KeptImportsAreSound}
use Rattle.proto_names_imports.specs.Links.{text_of, asked_as, all_wanted}
use Rattle.proto_names_imports.proofs.FilesAsked.{SameFile, after_cases, after_contains, after_left, after_right}
use Rattle.proto_names_imports.proofs.ImportGraph.{import_contained}

-- ---- file by file

module _ (text : At → List ℕ) where
  abbrev pub Own : ℕ → ReadOf → List AskedImport
  Own file r = map (asked_as text file) (imports_in r.tree)

  own_file : (file : ℕ) (r : ReadOf) (a : AskedImport) → Contains (Own file r) a → a.place.file ≡ file
  own_file file r a c = let w = from_map (asked_as text file) (imports_in r.tree) a c in sym (ap (λ z. z.place.file) w.2)

  -- an import stands in its file
  wanted_in : (n : ℕ) (rs : List ReadOf) (a : AskedImport) → Contains (all_wanted text n rs) a → (k : ℕ) × (k < length rs) × (a.place.file ≡ n + k) × Contains (Own (n + k) (read_at rs k)) a
  wanted_in n [] a c = absurd (omega (arith, c.1))
  wanted_in n (r ∷ rs) a c = elim (Contains-append_cases (Own n r) (all_wanted text (suc n) rs) a c) [
    | inl h ↦ let z : n ≡ n + 0 = omega arith in (0, omega arith, own_file n r a h ∙ z, subst (λ m. Contains (Own m r) a) z h)
    | inr t ↦
        let w = wanted_in (suc n) rs a t in
        let z : suc n + w.0 ≡ n + suc w.0 = omega arith in
        (suc w.0, omega (arith, w.1), w.2 ∙ z, subst (λ m. Contains (Own m (read_at rs w.0)) a) z w.3)
  ]

  wanted_of : (n k : ℕ) (rs : List ReadOf) (a : AskedImport) → k < length rs → Contains (Own (n + k) (read_at rs k)) a → Contains (all_wanted text n rs) a
  wanted_of n k [] a l c = absurd (omega (arith, l))
  wanted_of n zero (r ∷ rs) a l c =
      let z : n + 0 ≡ n = omega arith in
      Contains-append_left (Own n r) (all_wanted text (suc n) rs) a (subst (λ m. Contains (Own m r) a) z c)
  wanted_of n (suc k) (r ∷ rs) a l c =
      let z : n + suc k ≡ suc n + k = omega arith in
      Contains-append_right (Own n r) (all_wanted text (suc n) rs) a (wanted_of (suc n) k rs a (omega (arith, l)) (subst (λ m. Contains (Own m (read_at rs k)) a) z c))

  -- so does an earlier one of the same file
  abbrev Twice : List AskedImport → AskedImport → Type 0
  Twice = AfterEarlier (SameFile (λ x y. x.path ≡ y.path))

  twice_in : (n : ℕ) (rs : List ReadOf) (a : AskedImport) → Twice (all_wanted text n rs) a → (k : ℕ) × (k < length rs) × (a.place.file ≡ n + k) × Twice (Own (n + k) (read_at rs k)) a
  twice_in n [] a c = absurd (omega (arith, c.4))
  twice_in n (r ∷ rs) a c = elim (after_cases (SameFile (λ x y. x.path ≡ y.path)) (Own n r) (all_wanted text (suc n) rs) a c) [
    | inl same ↦ elim same [
      | inl h ↦
          let z : n ≡ n + 0 = omega arith in
          (0, omega arith, own_file n r a (after_contains (SameFile (λ x y. x.path ≡ y.path)) (Own n r) a h) ∙ z, subst (λ m. Twice (Own m r) a) z h)
      | inr t ↦
          let w = twice_in (suc n) rs a t in
          let z : suc n + w.0 ≡ n + suc w.0 = omega arith in
          (suc w.0, omega (arith, w.1), w.2 ∙ z, subst (λ m. Twice (Own m (read_at rs w.0)) a) z w.3)
    ]
    | inr apart ↦
        let low = own_file n r apart.0 apart.1 in
        let high = (wanted_in (suc n) rs a apart.2).2 in
        absurd (omega (arith, low, high, apart.3.0))
  ]

  twice_of : (n k : ℕ) (rs : List ReadOf) (a : AskedImport) → k < length rs → Twice (Own (n + k) (read_at rs k)) a → Twice (all_wanted text n rs) a
  twice_of n k [] a l c = absurd (omega (arith, l))
  twice_of n zero (r ∷ rs) a l c =
      let z : n + 0 ≡ n = omega arith in
      after_left (SameFile (λ x y. x.path ≡ y.path)) (Own n r) (all_wanted text (suc n) rs) a (subst (λ m. Twice (Own m r) a) z c)
  twice_of n (suc k) (r ∷ rs) a l c =
      let z : n + suc k ≡ suc n + k = omega arith in
      after_right (SameFile (λ x y. x.path ≡ y.path)) (Own n r) (all_wanted text (suc n) rs) a (twice_of (suc n) k rs a (omega (arith, l)) (subst (λ m. Twice (Own m (read_at rs k)) a) z c))

  -- a path fault of a file is an import fault of the files
  pub path_fault_of : (paths : List (List ℕ)) (k : ℕ) (rs : List ReadOf) {f : Fault} → k < length rs → PathFault paths (Own k (read_at rs k)) f → ImportFault paths (all_wanted text 0 rs) f
  path_fault_of paths k rs l (one.unknown a c n) =
      let z : k ≡ 0 + k = omega arith in
      all.unknown a (wanted_of 0 k rs a l (subst (λ m. Contains (Own m (read_at rs k)) a) z c)) n
  path_fault_of paths k rs l (one.double a c) =
      let z : k ≡ 0 + k = omega arith in
      all.double a (twice_of 0 k rs a l (subst (λ m. Twice (Own m (read_at rs k)) a) z c))

-- the imports of files are the same, where they are the same file by file
lists_same : (tb tf : At → List ℕ) (ps qs : List (List ℕ)) (n : ℕ) (xs ys : List ReadOf) → length xs ≡ length ys
    → ((k : ℕ) → k < length ys → imports_of ps (Own tb (n + k) (read_at xs k)) ≡ imports_of qs (Own tf (n + k) (read_at ys k))) → imports_of ps (all_wanted tb n xs) ≡ imports_of qs (all_wanted tf n ys)
lists_same tb tf ps qs n [] [] len h = refl
lists_same tb tf ps qs n [] (y ∷ ys) len h = absurd (omega (arith, len))
lists_same tb tf ps qs n (x ∷ xs) [] len h = absurd (omega (arith, len))
lists_same tb tf ps qs n (x ∷ xs) (y ∷ ys) len h =
    let z : n + 0 ≡ n = omega arith in
    let first : imports_of ps (Own tb n x) ≡ imports_of qs (Own tf n y) = subst (λ m. imports_of ps (Own tb m x) ≡ imports_of qs (Own tf m y)) z (h 0 (omega arith)) in
    let rest =
    lists_same tb tf ps qs (suc n) xs ys (omega (arith, len)) (λ k l.
    (let z' : n + suc k ≡ suc n + k = omega arith in
    subst (λ m. imports_of ps (Own tb m (read_at xs k)) ≡ imports_of qs (Own tf m (read_at ys k))) z' (h (suc k) (omega (arith, l))))) in
    filter_map-append (import_from_asked ps) (Own tb n x) (all_wanted tb (suc n) xs)
    ∙ ap (λ is. is ++ imports_of ps (all_wanted tb (suc n) xs)) first
    ∙ ap (λ is. imports_of qs (Own tf n y) ++ is) rest
    ∙ sym (filter_map-append (import_from_asked qs) (Own tf n y) (all_wanted tf (suc n) ys))

-- ---- an import, as it is written

filtered_from : {X Y : Type 0} (h : X → Option Y) (xs : List X) (y : Y) → Contains (filter_map h xs) y → (x : X) × Contains xs x × (h x ≡ Some y)
filtered_from h [] y c = absurd (omega (arith, c.1))
filtered_from {X = X} {Y = Y} h (x ∷ xs) y c = go (h x) refl c (filtered_from h xs y)
  where
    go : (o : Option Y) → h x ≡ o → Contains (cons_option o (filter_map h xs)) y → (Contains (filter_map h xs) y → (z : X) × Contains xs z × (h z ≡ Some y)) → (z : X) × Contains (x ∷ xs) z × (h z ≡ Some y)
    go None e d later = let r = later d in (r.0, contains_later x r.0 xs r.1, r.2)
    go (Some v) e d later = elim (contains_cases v y (filter_map h xs) d) [
      | inl same ↦ (x, contains_head x xs, e ∙ ap Some same)
      | inr rest ↦ let r = later rest in (r.0, contains_later x r.0 xs r.1, r.2)
    ]

named_by : (paths : List (List ℕ)) (a : AskedImport) (i : Import) → import_from_asked paths a ≡ Some i → (file_with_path paths a.path ≡ Some i.to) × (a.place.file ≡ i.from)
named_by paths a i h = go (file_with_path paths a.path) refl
  where
    go : (o : Option ℕ) → file_with_path paths a.path ≡ o → (file_with_path paths a.path ≡ Some i.to) × (a.place.file ≡ i.from)
    go None e = absurd (none-some i (sym (ap (option_map (λ t. let j : Import = record { from = a.place.file; to = t; is_public = a.is_public } in j)) e) ∙ h))
    go (Some t) e =
        let j : Import = record { from = a.place.file; to = t; is_public = a.is_public } in
        let s : j ≡ i = same_Some j i (sym (ap (option_map (λ t. let j : Import = record { from = a.place.file; to = t; is_public = a.is_public } in j)) e) ∙ h) in
        (e ∙ ap (λ (x : Import). Some x.to) s, ap (λ (x : Import). x.from) s)

-- ---- no faulty import

-- imports of which none is faulty in its file and none leads back to it have no fault
module _ (files : List FileOf) (reads : List ReadOf) (are : AreRead files reads) (each : (file : ℕ) → file < length files → (f : Fault) → PathFault (paths_of files) (wanted_by files reads file) f → ⊥)
    (acyclic : IsAcyclic (imports_of (paths_of files) (all_wanted (text_of files reads) 0 reads))) where
  none_faulty : {f : Fault} → ImportFault (paths_of files) (all_wanted (text_of files reads) 0 reads) f → ⊥
  none_faulty (all.unknown a c n) =
      let w = wanted_in (text_of files reads) 0 reads a c in
      let z : 0 + w.0 ≡ w.0 = omega arith in
      each w.0 (omega (arith, w.1, are.same)) (all.fault a.place 10) (one.unknown a (subst (λ m. Contains (Own (text_of files reads) m (read_at reads w.0)) a) z w.3) n)
  none_faulty (all.double a c) =
      let w = twice_in (text_of files reads) 0 reads a c in
      let z : 0 + w.0 ≡ w.0 = omega arith in
      each w.0 (omega (arith, w.1, are.same)) (all.fault a.place 11) (one.double a (subst (λ m. Twice (text_of files reads) (Own (text_of files reads) m (read_at reads w.0)) a) z w.3))
  none_faulty (all.cycle a to c n leads) =
      let asked = all_wanted (text_of files reads) 0 reads in
      let i = import_contained (paths_of files) asked a to c n in
      acyclic i.0 i.1 (subst (λ g. Leads (imports_of (paths_of files) asked) g i.0.from) (sym i.3) (subst (λ g. Leads (imports_of (paths_of files) asked) to g) (sym i.2) leads))

  pub sound_by_file : HasSoundImports files reads
  sound_by_file f h = none_faulty h

-- ---- kept imports

-- a file that is the same in both is read alike
read_alike : (before files : List FileOf) (had reads : List ReadOf) → AreRead before had → AreRead files reads → (k : ℕ) → k < length before → k < length files → file_at before k ≡ file_at files k → read_at had k ≡ read_at reads k
read_alike before files had reads x y k l m same =
    one_reading (file_at files k).profile (file_at files k).bytes (read_at had k) (read_at reads k)
    (subst (λ (f : FileOf). ReadsIn f.profile f.bytes (read_at had k).tokens (read_at had k).tree) same (x.trees k l)) (y.trees k m)

abbrev own_of : FileOf → ReadOf → ℕ → List AskedImport
own_of f r file = map (λ (w : Wanted). let a : AskedImport = record { place = at file w.path; path = or_nothing (value_of (words f.bytes r.tokens w.path)); is_public = w.is_public } in a) (imports_in r.tree)

module _ (before : List FileOf) (had : List ReadOf) (files : List FileOf) (reads : List ReadOf) (were_read : AreRead before had) (are_read : AreRead files reads) (paths : paths_of before ≡ paths_of files) where
  pub as_many : length before ≡ length files
  as_many = sym (length-map before (λ f. f.path)) ∙ ap length paths ∙ length-map files (λ f. f.path)

  -- a file that is as it was asks for what it did
  pub asks_as_before : (file : ℕ) → file < length files → file_at before file ≡ file_at files file → wanted_by before had file ≡ wanted_by files reads file
  asks_as_before file l same =
      let read = read_alike before files had reads were_read are_read file (omega (arith, l, as_many)) l same in
      ap (λ (f : FileOf). own_of f (read_at had file) file) same ∙ ap (λ (r : ReadOf). own_of (file_at files file) r file) read

module _ (before : List FileOf) (had : List ReadOf) (files : List FileOf) (reads : List ReadOf) (kept : KeepImports before had files reads) where
  many : length before ≡ length files
  many = as_many before had files reads kept.were_read kept.are_read kept.paths

  asks_so : (file : ℕ) → file < length files → file_at before file ≡ file_at files file → wanted_by before had file ≡ wanted_by files reads file
  asks_so = asks_as_before before had files reads kept.were_read kept.are_read kept.paths

  imports_stay : (file : ℕ) → file < length files → imports_of (paths_of before) (wanted_by before had file) ≡ imports_of (paths_of files) (wanted_by files reads file)
  imports_stay file l = elim (kept.each file l) [
    | inl same ↦ ap (λ ps. imports_of ps (wanted_by before had file)) kept.paths ∙ ap (imports_of (paths_of files)) (asks_so file l same)
    | inr h ↦ h.same
  ]

  all_stay : imports_of (paths_of before) (all_wanted (text_of before had) 0 had) ≡ imports_of (paths_of files) (all_wanted (text_of files reads) 0 reads)
  all_stay =
      lists_same (text_of before had) (text_of files reads) (paths_of before) (paths_of files) 0 had reads
      (kept.were_read.same ∙ many ∙ sym kept.are_read.same)
      (λ k l.
      (let z : k ≡ 0 + k = omega arith in
      subst (λ m. imports_of (paths_of before) (Own (text_of before had) m (read_at had k)) ≡ imports_of (paths_of files) (Own (text_of files reads) m (read_at reads k))) z
      (imports_stay k (omega (arith, l, kept.are_read.same)))))

  module _ (sound : HasSoundImports before had) where
    no_path_fault : (file : ℕ) → file < length files → (f : Fault) → PathFault (paths_of files) (wanted_by files reads file) f → ⊥
    no_path_fault file l f p = elim (kept.each file l) [
      | inl same ↦
          sound f
          (path_fault_of (text_of before had) (paths_of before) file had (omega (arith, l, many, kept.were_read.same))
          (subst (λ ps. PathFault ps (wanted_by before had file) f) (sym kept.paths) (subst (λ asked. PathFault (paths_of files) asked f) (sym (asks_so file l same)) p)))
      | inr h ↦ h.clean f p
    ]

    -- no import leads back
    none_leads_back : IsAcyclic (imports_of (paths_of files) (all_wanted (text_of files reads) 0 reads))
    none_leads_back i c leads =
        let w = filtered_from (import_from_asked (paths_of before)) (all_wanted (text_of before had) 0 had) i (subst (λ is. Contains is i) (sym all_stay) c) in
        let named = named_by (paths_of before) w.0 i w.2 in
        let back : Leads (imports_of (paths_of before) (all_wanted (text_of before had) 0 had)) i.to w.0.place.file =
        subst (λ is. Leads is i.to w.0.place.file) (sym all_stay)
        (subst (λ g. Leads (imports_of (paths_of files) (all_wanted (text_of files reads) 0 reads)) i.to g) (sym named.1) leads) in
        sound (all.fault w.0.place 12) (all.cycle w.0 i.to w.1 named.0 back)

pub kept_imports_are_equal : KeptImportsAreEqual
kept_imports_are_equal before had files reads kept = all_stay before had files reads kept

pub kept_imports_are_sound : KeptImportsAreSound
kept_imports_are_sound before had files reads kept sound = sound_by_file files reads kept.are_read (no_path_fault before had files reads kept sound) (none_leads_back before had files reads kept sound)
