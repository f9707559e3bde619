-- The imports of files with one import more, and without the import of a path.
use Rattle.std.proofs.Common.{◌≡◌, ◌↔◌, ℕ, ◌<◌, Bool, true, false, ◌==◌, not, List, [], ◌∷◌, ◌++◌, length, get_or, filter, refl, sym, ◌∙◌, ap, subst, inl, inr, arith, slice_set, Option, Some, None, option_map, Contains, bytes_eq, eqb-true, eq-eqb}
use Rattle.proto_base.proofs.Common.{and_from, and_parts, both_ways, cases_eq, length-map, Contains-append_cases, Contains-append_left, Contains-append_right, position-Some, none-some, same_Some, contains_cases, contains_head, same_from_word, word_from_same, contains_filter, from_filter}
use Rattle.proto_files.proofs.Common.{ReadOf, FileOf, paths_of}
use Rattle.proto_names_rules.proofs.Common.{AskedImport, file_with_path, import_from_asked, imports_of, Import}
use Rattle.proto_names_imports.proofs.Common.{all_imports, import_from, link_imports}
use Rattle.proto_names_imports.specs.declared.import.FileImport.{FileImport}
use Rattle.proto_edit_statement_laws.proofs.NamesCommon.{IsPlaceOf, asked_in, is_import_of, import_own, own_import, set_imports}
use Rattle.proto_edit_statement_laws.proofs.ImportNames.{asked_import, import_asked}

-- two paths at one place are one
pub one_path : (paths : List (List ℕ)) (a b : List ℕ) (k : ℕ) → file_with_path paths a ≡ Some k → file_with_path paths b ≡ Some k → a ≡ b
one_path paths a b k e f =
    let p = position-Some (bytes_eq a) paths k [] e in
    let q = position-Some (bytes_eq b) paths k [] f in
    word_from_same a (get_or paths k []) p.1 ∙ sym (word_from_same b (get_or paths k []) q.1)

-- the file of a path is one of the files
pub place_within : (files : List FileOf) (path : List ℕ) (k : ℕ) → IsPlaceOf files path k → k < length files
place_within files path k e =
    let p = (position-Some (bytes_eq path) (paths_of files) k [] e).0 in
    let long = length-map files (λ f. f.path) in
    omega (arith, p, long)

-- ---- one more

pub one_more : (is : List (List FileImport)) (k : ℕ) (x : FileImport) → k < length is → (i : Import)
    → Contains (all_imports 0 (slice_set is k (get_or is k [] ++ x ∷ []))) i ↔ Contains (all_imports 0 is ++ import_from k x ∷ []) i
one_more is k x l i = (
  λ c. elim ((set_imports is k (get_or is k [] ++ x ∷ []) l i).0 c) [
    | inl o ↦ Contains-append_left (all_imports 0 is) (import_from k x ∷ []) i o.1
    | inr o ↦ elim (Contains-append_cases (get_or is k []) (x ∷ []) o.0 o.1) [
      | inl d ↦ Contains-append_left (all_imports 0 is) (import_from k x ∷ []) i (subst (Contains (all_imports 0 is)) o.2 (import_own is k o.0 d))
      | inr d ↦ elim (contains_cases x o.0 [] d) [
        | inl e ↦ Contains-append_right (all_imports 0 is) (import_from k x ∷ []) i (subst (Contains (import_from k x ∷ [])) (ap (import_from k) e ∙ o.2) (contains_head (import_from k x) []))
        | inr n ↦ absurd (omega (arith, n.1))
      ]
    ]
  ],
  λ c. (set_imports is k (get_or is k [] ++ x ∷ []) l i).1 (elim (Contains-append_cases (all_imports 0 is) (import_from k x ∷ []) i c) [
    | inl d ↦ elim (cases_eq i.from k) [
      | inl e ↦ (let o = own_import is k i d e in inr (o.0, Contains-append_left (get_or is k []) (x ∷ []) o.0 o.1, o.2))
      | inr ne ↦ inl (ne, d)
    ]
    | inr d ↦ elim (contains_cases (import_from k x) i [] d) [
      | inl e ↦ inr (x, Contains-append_right (get_or is k []) (x ∷ []) x (contains_head x []), e)
      | inr n ↦ absurd (omega (arith, n.1))
    ]
  ]),
)

-- ---- one less

not_true : (b : Bool) → not b ≡ true → b ≡ true → ⊥
not_true true n t = both_ways false refl n
not_true false n t = both_ways false refl t

not_from : (b : Bool) → (b ≡ true → ⊥) → not b ≡ true
not_from true f = absurd (f refl)
not_from false f = refl

module _ (files : List FileOf) (reads : List ReadOf) (k to : ℕ) (path : List ℕ) (place : IsPlaceOf files path to) where
  abbrev paths : List (List ℕ)
  paths = paths_of files

  abbrev asked : List AskedImport
  asked = asked_in files reads

  abbrev resolved : AskedImport → ℕ → Import
  resolved a t = record { from = a.place.file; to = t; is_public = a.is_public }

  -- what an import that was asked for is
  named : (a : AskedImport) (i : Import) → import_from_asked paths a ≡ Some i → (file_with_path paths a.path ≡ Some i.to) × (a.place.file ≡ i.from)
  named a i h = by (file_with_path paths a.path) refl
    where
      by : (o : Option ℕ) → file_with_path paths a.path ≡ o → (file_with_path paths a.path ≡ Some i.to) × (a.place.file ≡ i.from)
      by None e = absurd (none-some i (sym (ap (option_map (resolved a)) e) ∙ h))
      by (Some t) e =
          let same : resolved a t ≡ i = same_Some (resolved a t) i (sym (ap (option_map (resolved a)) e) ∙ h) in
          (e ∙ ap Some (ap (λ (x : Import). x.to) same), ap (λ (x : Import). x.from) same)

  -- an import of the path by the file is that of the place by it
  dropped : (a : AskedImport) (i : Import) → import_from_asked paths a ≡ Some i → (is_import_of k path a ≡ true) ↔ ((i.from ≡ k) × (i.to ≡ to))
  dropped a i h =
      let n = named a i h in (
        λ e. (
            let p = and_parts (a.place.file == k) (bytes_eq a.path path) e in
            (sym n.1 ∙ eqb-true a.place.file k p.0, same_Some i.to to (sym n.0 ∙ ap (file_with_path paths) (word_from_same a.path path p.1) ∙ place))),
        λ e. and_from (a.place.file == k) (bytes_eq a.path path) (eq-eqb a.place.file k (n.1 ∙ e.0)) (same_from_word a.path path (one_path paths a.path path to (n.0 ∙ ap Some e.1) place)),
      )

  -- the file's imports without that of the place
  abbrev is_left : FileImport → Bool
  is_left x = not (x.to == to)

  abbrev is_kept : AskedImport → Bool
  is_kept a = not (is_import_of k path a)

  pub one_less : (is : List (List FileImport)) → k < length is → all_imports 0 is ≡ link_imports files reads → (i : Import)
      → Contains (all_imports 0 (slice_set is k (filter is_left (get_or is k [])))) i ↔ Contains (imports_of paths (filter is_kept asked)) i
  one_less is l same i = (
    λ c. elim ((set_imports is k (filter is_left (get_or is k [])) l i).0 c) [
      | inl o ↦
          let a = import_asked paths asked i (subst (λ z. Contains z i) same o.1) in
          asked_import paths (filter is_kept asked) a.0 i (contains_filter is_kept asked a.0 a.1 (not_from (is_import_of k path a.0) (λ e. o.0 ((dropped a.0 i a.2).0 e).0))) a.2
      | inr o ↦
          let f = from_filter is_left (get_or is k []) o.0 o.1 in
          let d : Contains (all_imports 0 is) i = subst (Contains (all_imports 0 is)) o.2 (import_own is k o.0 f.0) in
          let a = import_asked paths asked i (subst (λ z. Contains z i) same d) in
          let passes = not_from (is_import_of k path a.0) (λ e. not_true (o.0.to == to) f.1 (eq-eqb o.0.to to (ap (λ (x : Import). x.to) o.2 ∙ ((dropped a.0 i a.2).0 e).1))) in
          asked_import paths (filter is_kept asked) a.0 i (contains_filter is_kept asked a.0 a.1 passes) a.2
    ],
    λ c. (
        let a = import_asked paths (filter is_kept asked) i c in
        let f = from_filter is_kept asked a.0 a.1 in
        let d : Contains (all_imports 0 is) i = subst (λ z. Contains z i) (sym same) (asked_import paths asked a.0 i f.0 a.2) in
        (set_imports is k (filter is_left (get_or is k [])) l i).1 (elim (cases_eq i.from k) [
          | inl e ↦
              let x = own_import is k i d e in
              let passes = not_from (x.0.to == to) (λ t. not_true (is_import_of k path a.0) f.1 ((dropped a.0 i a.2).1 (e, sym (ap (λ (z : Import). z.to) x.2) ∙ eqb-true x.0.to to t))) in
              inr (x.0, contains_filter is_left (get_or is k []) x.0 x.1 passes, x.2)
          | inr ne ↦ inl (ne, d)
        ])),
  )
