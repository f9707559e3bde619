-- Imports that stand file behind file tell those of each file, and files that keep theirs.
use Rattle.std.proofs.Common.{◌≡◌, ℕ, zero, suc, ◌+◌, ◌<◌, ◌≤◌, ◌==◌, Bool, true, false, List, [], ◌∷◌, ◌++◌, length, get_or, map, Option, Some, None, option_map, refl, sym, ◌∙◌, ap, subst, inl, inr, arith, Contains, filter, eq-eqb, eqb-true}
use Rattle.proto_base.proofs.Common.{Contains-append_cases, cond-false, cond-true, cons_option, contains_cases, contains_head, contains_later, false_from_ne_true, filter-append, filter_map-append, from_map, get_or_default, length-map, none-some, same_Some}
use Rattle.std.specs.List.{filter_map}
use Rattle.proto_files.proofs.Common.{AreRead, FileOf, ReadOf, paths_of, read_at}
use Rattle.proto_names_imports.proofs.Common.{all_imports, all_wanted, asked_as, import_from, text_of}
use Rattle.proto_names_imports.specs.Laws.{AreImportsOf, KeepImports, wanted_by}
use Rattle.proto_names_imports.specs.declared.import.FileImport.{FileImport}
use Rattle.proto_names_outline.proofs.Common.{imports_in}
use Rattle.proto_names_rules.proofs.Common.{AskedImport, At, Import, file_with_path, import_from_asked, imports_of}
use Rattle.proto_names_update.specs.KeptImports.{WereImports}
use Rattle.proto_names_update.proofs.Places.{contains_or_not}

-- ---- lists that stand one behind the other

all_pass : {X : Type 0} (p : X → Bool) (xs : List X) → ((x : X) → Contains xs x → p x ≡ true) → filter p xs ≡ xs
all_pass p [] h = refl
all_pass p (x ∷ xs) h = cond-true (p x) (x ∷ filter p xs) (filter p xs) (h x (contains_head x xs)) ∙ ap (λ ys. x ∷ ys) (all_pass p xs (λ y c. h y (contains_later x y xs c)))

none_pass : {X : Type 0} (p : X → Bool) (xs : List X) → ((x : X) → Contains xs x → p x ≡ false) → filter p xs ≡ []
none_pass p [] h = refl
none_pass p (x ∷ xs) h = cond-false (p x) (x ∷ filter p xs) (filter p xs) (h x (contains_head x xs)) ∙ none_pass p xs (λ y c. h y (contains_later x y xs c))

-- for each number from the first one on, imports that are from the file with this number
module _ {X : Type 0} (part : ℕ → X → List Import) (own : (n : ℕ) (x : X) (i : Import) → Contains (part n x) i → i.from ≡ n) where
  abbrev pub together : ℕ → List X → List Import
  together n [] = []
  together n (x ∷ xs) = part n x ++ together (suc n) xs

  abbrev is_from : ℕ → Import → Bool
  is_from k i = i.from == k

  later : (n : ℕ) (xs : List X) (i : Import) → Contains (together n xs) i → n ≤ i.from
  later n [] i c = absurd (omega (arith, c.1))
  later n (x ∷ xs) i c = elim (Contains-append_cases (part n x) (together (suc n) xs) i c) [
    | inl a ↦ let e = own n x i a in omega (arith, e)
    | inr b ↦ let r = later (suc n) xs i b in omega (arith, r)
  ]

  none_of : (k n : ℕ) (xs : List X) → k < n → filter (is_from k) (together n xs) ≡ []
  none_of k n xs l = none_pass (is_from k) (together n xs) (λ i c. false_from_ne_true (i.from == k) (λ q. let e = eqb-true i.from k q in let r = later n xs i c in omega (arith, e, r, l)))

  pub part_of : (n k : ℕ) (xs : List X) (d : X) → k < length xs → filter (is_from (n + k)) (together n xs) ≡ part (n + k) (get_or xs k d)
  part_of n k [] d l = absurd (omega (arith, l))
  part_of n zero (x ∷ xs) d l =
      let z : n ≡ n + 0 = omega arith in
      filter-append (is_from (n + 0)) (part n x) (together (suc n) xs)
      ∙ ap (λ ys. filter (is_from (n + 0)) (part n x) ++ ys) (none_of (n + 0) (suc n) xs (omega arith))
      ∙ ap (λ ys. ys ++ []) (all_pass (is_from (n + 0)) (part n x) (λ i c. eq-eqb i.from (n + 0) (own n x i c ∙ z)))
      ∙ append_nil (part n x)
      ∙ ap (λ m. part m x) z
    where
      append_nil : (is : List Import) → is ++ [] ≡ is
      append_nil [] = refl
      append_nil (i ∷ is) = ap (λ js. i ∷ js) (append_nil is)
  part_of n (suc k) (x ∷ xs) d l =
      let z : suc n + k ≡ n + suc k = omega arith in
      filter-append (is_from (n + suc k)) (part n x) (together (suc n) xs)
      ∙ ap (λ ys. ys ++ filter (is_from (n + suc k)) (together (suc n) xs))
      (none_pass (is_from (n + suc k)) (part n x) (λ i c. false_from_ne_true (i.from == (n + suc k)) (λ q. let e = eqb-true i.from (n + suc k) q in let r = own n x i c in omega (arith, e, r))))
      ∙ ap (λ m. filter (is_from m) (together (suc n) xs)) (sym z)
      ∙ part_of (suc n) k xs d (omega (arith, l))
      ∙ ap (λ m. part m (get_or xs k d)) z

-- imports of a file are the same, where they are so as imports between files
pub same_imports : (file : ℕ) (xs ys : List FileImport) → map (import_from file) xs ≡ map (import_from file) ys → xs ≡ ys
same_imports file xs ys h = sym (back xs) ∙ ap (map own_part) h ∙ back ys
  where
    own_part : Import → FileImport
    own_part i = record { to = i.to; is_public = i.is_public }

    back : (zs : List FileImport) → map own_part (map (import_from file) zs) ≡ zs
    back [] = refl
    back (z ∷ zs) = ap (λ rest. z ∷ rest) (back zs)

-- ---- imports as they are resolved, and as they are written

abbrev resolved : ℕ → List FileImport → List Import
resolved n is = map (import_from n) is

resolved_own : (n : ℕ) (is : List FileImport) (i : Import) → Contains (resolved n is) i → i.from ≡ n
resolved_own n is i c = let r = from_map (import_from n) is i c in sym (ap (λ (j : Import). j.from) r.2)

all_resolved : (n : ℕ) (imports : List (List FileImport)) → all_imports n imports ≡ together resolved resolved_own n imports
all_resolved n [] = refl
all_resolved n (is ∷ imports) = ap (λ js. resolved n is ++ js) (all_resolved (suc n) imports)

module _ (paths : List (List ℕ)) (text : At → List ℕ) where
  abbrev written : ℕ → ReadOf → List Import
  written n r = imports_of paths (map (asked_as text n) (imports_in r.tree))

  from_filtered : {A B : Type 0} (h : A → Option B) (xs : List A) (y : B) → Contains (filter_map h xs) y → (x : A) × Contains xs x × (h x ≡ Some y)
  from_filtered h [] y c = absurd (omega (arith, c.1))
  from_filtered {A = A} {B = B} h (x ∷ xs) y c = go (h x) refl c (from_filtered h xs y)
    where
      go : (o : Option B) → h x ≡ o → Contains (cons_option o (filter_map h xs)) y → (Contains (filter_map h xs) y → (z : A) × Contains xs z × (h z ≡ Some y)) → (z : A) × Contains (x ∷ xs) z × (h z ≡ Some y)
      go None e d more = let r = more d in (r.0, contains_later x r.0 xs r.1, r.2)
      go (Some v) e d more = elim (contains_cases v y (filter_map h xs) d) [
        | inl same ↦ (x, contains_head x xs, e ∙ ap Some same)
        | inr rest ↦ let r = more rest in (r.0, contains_later x r.0 xs r.1, r.2)
      ]

  abbrev made : AskedImport → ℕ → Import
  made a t = record { from = a.place.file; to = t; is_public = a.is_public }

  asked_from : (a : AskedImport) (i : Import) → import_from_asked paths a ≡ Some i → a.place.file ≡ i.from
  asked_from a i h = go (file_with_path paths a.path) refl
    where
      go : (o : Option ℕ) → file_with_path paths a.path ≡ o → a.place.file ≡ i.from
      go None e = absurd (none-some i (sym (ap (option_map (made a)) e) ∙ h))
      go (Some t) e = ap (λ (x : Import). x.from) (same_Some (made a t) i (sym (ap (option_map (made a)) e) ∙ h))

  written_own : (n : ℕ) (r : ReadOf) (i : Import) → Contains (written n r) i → i.from ≡ n
  written_own n r i c =
      let w = from_filtered (import_from_asked paths) (map (asked_as text n) (imports_in r.tree)) i c in
      let a = from_map (asked_as text n) (imports_in r.tree) w.0 w.1 in
      sym (asked_from w.0 i w.2) ∙ sym (ap (λ (x : AskedImport). x.place.file) a.2)

  all_written : (n : ℕ) (rs : List ReadOf) → imports_of paths (all_wanted text n rs) ≡ together written written_own n rs
  all_written n [] = refl
  all_written n (r ∷ rs) =
      filter_map-append (import_from_asked paths) (map (asked_as text n) (imports_in r.tree)) (all_wanted text (suc n) rs)
      ∙ ap (λ js. written n r ++ js) (all_written (suc n) rs)

-- ---- the imports of one file

pub imports_of_file : (before : List FileOf) (was : List ReadOf) (places : List ℕ) (files : List FileOf) (imports : List (List FileImport)) → WereImports places files imports before was
    → (k : ℕ) → k < length before → k < length imports → imports_of (paths_of before) (wanted_by before was k) ≡ map (import_from k) (get_or imports k [])
imports_of_file before was places files imports were k l m =
    let paths = paths_of before in
    let text = text_of before was in
    let z : 0 + k ≡ k = omega arith in
    let lr : k < length was = omega (arith, l, were.were_read.same) in
    let same : together resolved resolved_own 0 imports ≡ together (written paths text) (written_own paths text) 0 was = sym (all_resolved 0 imports) ∙ were.imports ∙ all_written paths text 0 was in
    let one = part_of resolved resolved_own 0 k imports [] m in
    let other = part_of (written paths text) (written_own paths text) 0 k was (read_at was k) lr in
    ap (written paths text k) (read_there was k lr)
    ∙ ap (λ n. written paths text n (get_or was k (read_at was k))) (sym z)
    ∙ sym other
    ∙ ap (filter (λ (i : Import). i.from == (0 + k))) (sym same)
    ∙ one
    ∙ ap (λ n. resolved n (get_or imports k [])) z
  where
    read_there : (rs : List ReadOf) (j : ℕ) → j < length rs → read_at rs j ≡ get_or rs j (read_at was k)
    read_there [] j l' = absurd (omega (arith, l'))
    read_there (r ∷ rs) zero l' = refl
    read_there (r ∷ rs) (suc j) l' = read_there rs j (omega (arith, l'))

-- ---- files that keep their imports

pub imports_kept : (places : List ℕ) (files : List FileOf) (imports : List (List FileImport)) → length imports ≡ length files
    → (reads : List ReadOf) → AreRead files reads → ((k : ℕ) → k < length places → AreImportsOf files reads (get_or places k 0) (get_or imports (get_or places k 0) []))
    → (before : List FileOf) (was : List ReadOf) → WereImports places files imports before was → KeepImports before was files reads
imports_kept places files imports paired reads are each before was were = record {
  were_read = were.were_read;
  are_read = are;
  paths = were.same.paths;
  each = λ file l. elim (contains_or_not places file) [
    | inl c ↦
        let there = subst (λ p. AreImportsOf files reads p (get_or imports p [])) (get_or_default places c.0 0 file c.1 ∙ c.2) (each c.0 c.1) in
        inr (record { same = imports_of_file before was places files imports were file (omega (arith, l, many)) (omega (arith, l, paired)) ∙ sym there.same; clean = there.clean })
    | inr out ↦ inl (were.same.others file l out)
  ];
}
  where
    many : length before ≡ length files
    many = sym (length-map before (λ (f : FileOf). f.path)) ∙ ap length were.same.paths ∙ length-map files (λ (f : FileOf). f.path)
