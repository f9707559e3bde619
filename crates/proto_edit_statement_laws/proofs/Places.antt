-- The least place of references of which something holds is there, and it is one (for the crates above).
use Rattle.std.proofs.Common.{◌≡◌, ◌≢◌, ◌⊎◌, inl, inr, ℕ, ◌≤◌, Bool, true, false, ◌&&◌, not, List, [], ◌∷◌, ◌++◌, length, Option, Some, None, refl, sym, ◌∙◌, ap, ap₂, subst, arith, Contains, filter}
use Rattle.proto_base.proofs.Common.{list_any, and_from, and_parts, both_ways, cases_Bool, cases_eq, cases_lt, none-some, same_Some, any_from, any_to, contains_cases, contains_head, contains_later, contains_map}
use Rattle.proto_case.specs.Camel.{entry_name}
use Rattle.proto_text.specs.Texts.{offset_at}
use Rattle.proto_files.proofs.Common.{ReadOf, read_at, FileOf, file_at, paths_of}
use Rattle.proto_names_rules.proofs.Common.{IsNeeded, IsOvertaken, import_of, with_imports, imports_of, At, at, IsLinked, Import, Reference, Symbol, Workspace, greatest, hit, hits_at, meaning, same_name, sees, Used, reference_of, greatest_above, greatest_is, name_from_same, same_from_name, has_meaning}
use Rattle.proto_names_imports.specs.Links.{link_imports, link_skeleton, names_of_files, text_of}
use Rattle.proto_edit_rules.specs.Rename.{IsFirstPlace, StandsBefore}
use Rattle.proto_edit_rules.specs.AddImport.{AdditionCase, IsOvertakenIn, already_imported, asked_in, captured, cycle, is_import_of, unknown_file, unknown_path, with_added}
use Rattle.proto_edit_rules.specs.DropImport.{DropCase, IsNeededIn, needed, no_such_file, not_imported, with_dropped}
use Rattle.proto_edit_rules.specs.Statements.{IsPlaceOf}
use Rattle.proto_edit_statement_laws.specs.Places.{NeededMeansElse, NeededPlacesAreOne, NeededPlacesAreThere, OvertakenMeansElse, OvertakenPlacesAreOne, OvertakenPlacesAreThere}
use Rattle.proto_edit_statement_laws.proofs.Kept.{linked}

-- ---- the order of places, as what it denies

record IsNotBefore (a b : At) : Type 0 where
  files : b.file ≤ a.file
  tokens : a.file ≡ b.file → b.token ≤ a.token

not_before : (a b : At) → (StandsBefore a b → ⊥) → IsNotBefore a b
not_before a b h = record {
  files = elim (cases_lt a.file b.file) [ inl l ↦ absurd (h (inl l)) | inr m ↦ m ];
  tokens = λ e. elim (cases_lt a.token b.token) [ inl l ↦ absurd (h (inr (e, l))) | inr m ↦ m ];
}

denies : (a b : At) → IsNotBefore a b → StandsBefore a b → ⊥
denies a b n (inl l) = let f = n.files in omega (arith, f, l)
denies a b n (inr s) = let t = n.tokens s.0 in omega (arith, t, s.1)

not_before_both : (a b c : At) → IsNotBefore a b → IsNotBefore b c → IsNotBefore a c
not_before_both a b c n m = record {
  files = let f = n.files in let g = m.files in omega (arith, f, g);
  tokens = λ e.
      (let f = n.files in
      let g = m.files in
      let t = n.tokens (omega (arith, f, g, e)) in
      let u = m.tokens (omega (arith, f, g, e)) in
      omega (arith, t, u));
}

same_place : (a b : At) → IsNotBefore a b → IsNotBefore b a → a ≡ b
same_place a b n m =
    let f = n.files in
    let g = m.files in
    let e : a.file ≡ b.file = omega (arith, f, g) in
    let t = n.tokens e in
    let u = m.tokens (sym e) in
    ap₂ (λ (x y : ℕ). at x y) e (omega (arith, t, u))

-- two first places are the same, whatever is asked of the references
places_are_one : (files : List FileOf) (reads : List ReadOf) (Holds : Used At → Type 0) (path other : List ℕ) (offset k : ℕ) → IsFirstPlace files reads Holds path offset → IsFirstPlace files reads Holds other k → (path ≡ other) × (offset ≡ k)
places_are_one files reads Holds path other offset k x y =
    let same = same_place x.u.first y.u.first (not_before x.u.first y.u.first (y.least x.u x.holds)) (not_before y.u.first x.u.first (x.least y.u y.holds)) in (
      x.path_is ∙ ap (λ (z : At). (file_at files z.file).path) same ∙ sym y.path_is,
      x.offset_is ∙ ap (λ (z : At). offset_at (read_at reads z.file).tokens z.token) same ∙ sym y.offset_is,
    )

-- ---- the least

module _ (P : Used At → Type 0) (decide : (u : Used At) → P u ⊎ (P u → ⊥)) where
  record IsLowest (us : List (Used At)) (u : Used At) : Type 0 where
    within : Contains us u
    holds : P u
    lowest : (v : Used At) → Contains us v → P v → IsNotBefore v.first u.first

  itself : (u v : Used At) → u ≡ v → IsNotBefore v.first u.first
  itself u v e = subst (λ (z : Used At). IsNotBefore z.first u.first) e (record { files = omega arith; tokens = λ q. omega arith })

  -- the lower of the head and the lowest behind it
  lower : (x u : Used At) (us : List (Used At)) → P x → IsLowest us u → (v : Used At) × IsLowest (x ∷ us) v
  lower x u us p h = elim (cases_lt u.first.file x.first.file) [
    | inl l ↦ keep (record { files = omega (arith, l); tokens = λ e. omega (arith, e, l) })
    | inr m ↦ elim (cases_lt x.first.file u.first.file) [
      | inl l ↦ take_head (record { files = omega (arith, l); tokens = λ e. omega (arith, e, l) })
      | inr n ↦ elim (cases_lt u.first.token x.first.token) [
        | inl l ↦ keep (record { files = n; tokens = λ e. omega (arith, l) })
        | inr k ↦ take_head (record { files = m; tokens = λ e. k })
      ]
    ]
  ]
    where
      keep : IsNotBefore x.first u.first → (v : Used At) × IsLowest (x ∷ us) v
      keep n = (u, record { within = contains_later x u us h.within; holds = h.holds; lowest = λ v c q. elim (contains_cases x v us c) [ inl e ↦ subst (λ (z : Used At). IsNotBefore z.first u.first) e n | inr d ↦ h.lowest v d q ] })

      take_head : IsNotBefore u.first x.first → (v : Used At) × IsLowest (x ∷ us) v
      take_head n = (x, record { within = contains_head x us; holds = p; lowest = λ v c q. elim (contains_cases x v us c) [ inl e ↦ itself x v e | inr d ↦ not_before_both v.first u.first x.first (h.lowest v d q) n ] })

  lowest_of : (us : List (Used At)) → ((u : Used At) × IsLowest us u) ⊎ ((v : Used At) → Contains us v → P v → ⊥)
  lowest_of [] = inr (λ v c p. omega (arith, c.1))
  lowest_of (x ∷ us) = elim (decide x) [
    | inl p ↦ elim (lowest_of us) [
      | inl r ↦ inl (lower x r.0 us p r.1)
      | inr none ↦ inl (x, record { within = contains_head x us; holds = p; lowest = λ v c q. elim (contains_cases x v us c) [ inl e ↦ itself x v e | inr d ↦ absurd (none v d q) ] })
    ]
    | inr fails ↦ elim (lowest_of us) [
      | inl r ↦ inl (r.0, record { within = contains_later x r.0 us r.1.within; holds = r.1.holds; lowest = λ v c q. elim (contains_cases x v us c) [ inl e ↦ absurd (fails (subst P (sym e) q)) | inr d ↦ r.1.lowest v d q ] })
      | inr none ↦ inr (λ v c q. elim (contains_cases x v us c) [ inl e ↦ fails (subst P (sym e) q) | inr d ↦ none v d q ])
    ]
  ]

-- ---- what is overtaken or needed can be told

overtaken_or : (w v : Workspace) (r : Reference) → IsOvertaken w v r ⊎ (IsOvertaken w v r → ⊥)
overtaken_or w v r = by (hit w r) refl (greatest (hits_at v r) (length r.scope)) refl
  where
    by : (o : Option ℕ) → hit w r ≡ o → (p : Option ℕ) → greatest (hits_at v r) (length r.scope) ≡ p → IsOvertaken w v r ⊎ (IsOvertaken w v r → ⊥)
    by None e p f = inr (λ c. none-some c.0 (sym e ∙ c.2))
    by (Some k) e None f = inr (λ c. (let g = greatest_above (hits_at v r) (length r.scope) c.1 c.4 c.5 in none-some g.0 (sym f ∙ g.1)))
    by (Some k) e (Some i) f = elim (cases_lt k i) [
      | inl above ↦ (let g = greatest_is (hits_at v r) (length r.scope) i f in inl (k, i, e, above, g.within, g.passes))
      | inr below ↦ inr (λ c.
          (let g = greatest_above (hits_at v r) (length r.scope) c.1 c.4 c.5 in
          let same = same_Some g.0 i (sym g.1 ∙ f) in
          let hits = same_Some c.0 k (sym c.2 ∙ e) in
          omega (arith, below, c.3, g.2, same, hits)))
    ]

-- the symbol is meant and no longer seen
abbrev is_lost : Workspace → Reference → Option (List (List ℕ)) → Symbol → Bool
is_lost v r None s = false
is_lost v r (Some m) s = same_name m s.name && not (sees v r.file s.file)

needed_or : (w v : Workspace) (r : Reference) → IsNeeded w v r ⊎ (IsNeeded w v r → ⊥)
needed_or w v r = by (meaning w r) refl
  where
    unseen : (b : Bool) → not b ≡ true → b ≡ false
    unseen true e = sym e
    unseen false e = refl

    seen_not : (b : Bool) → b ≡ false → not b ≡ true
    seen_not true e = sym e
    seen_not false e = refl

    by : (o : Option (List (List ℕ))) → meaning w r ≡ o → IsNeeded w v r ⊎ (IsNeeded w v r → ⊥)
    by None e = inr (λ c. none-some c.0.name (sym e ∙ c.2))
    by (Some m) e = elim (cases_Bool (list_any (is_lost v r (Some m)) w.symbols)) [
      | inl t ↦ (
          let s = any_to (is_lost v r (Some m)) w.symbols t in
          let p = and_parts (same_name m s.0.name) (not (sees v r.file s.0.file)) s.2 in
          inl (s.0, s.1, e ∙ ap Some (name_from_same m s.0.name p.0), unseen (sees v r.file s.0.file) p.1))
      | inr f ↦ inr (λ c.
          both_ways (list_any (is_lost v r (Some m)) w.symbols) f
          (any_from (is_lost v r (Some m)) w.symbols c.0 c.1 (and_from (same_name m c.0.name) (not (sees v r.file c.0.file)) (same_from_name m c.0.name (same_Some m c.0.name (sym e ∙ c.2))) (seen_not (sees v r.file c.0.file) c.3))))
    ]

both_or : {A B : Type 0} → A ⊎ (A → ⊥) → B ⊎ (B → ⊥) → (A × B) ⊎ (A × B → ⊥)
both_or (inl a) (inl b) = inl (a, b)
both_or (inl a) (inr n) = inr (λ c. n c.1)
both_or (inr n) b = inr (λ c. n c.0)

-- ---- their least places

module _ (files : List FileOf) (reads : List ReadOf) where
  overtaken_there : (k to : ℕ) (u : Used At) → IsOvertakenIn files reads k to u → (place : List ℕ) × (offset : ℕ) × IsFirstPlace files reads (IsOvertakenIn files reads k to) place offset
  overtaken_there k to u h = elim (lowest_of Is decide (link_skeleton files reads).used) [
    | inl r ↦ (
      (file_at files r.0.first.file).path,
      offset_at (read_at reads r.0.first.file).tokens r.0.first.token,
      record {
        u = r.0;
        holds = record { used = r.1.within; own = r.1.holds.0; overtaken = r.1.holds.1 };
        least = λ v q. denies v.first r.0.first (r.1.lowest v q.used (q.own, q.overtaken));
        path_is = refl;
        offset_is = refl;
      },
    )
    | inr none ↦ absurd (none u h.used (h.own, h.overtaken))
  ]
    where
      Is : Used At → Type 0
      Is v = (v.file ≡ k) × IsOvertaken (names_of_files files reads) (with_added files reads k to) (reference_of (text_of files reads) entry_name v)

      decide : (v : Used At) → Is v ⊎ (Is v → ⊥)
      decide v = both_or (cases_eq v.file k) (overtaken_or (names_of_files files reads) (with_added files reads k to) (reference_of (text_of files reads) entry_name v))

  needed_there : (k : ℕ) (path : List ℕ) (u : Used At) → IsNeededIn files reads k path u → (place : List ℕ) × (offset : ℕ) × IsFirstPlace files reads (IsNeededIn files reads k path) place offset
  needed_there k path u h = elim (lowest_of Is decide (link_skeleton files reads).used) [
    | inl r ↦ (
      (file_at files r.0.first.file).path,
      offset_at (read_at reads r.0.first.file).tokens r.0.first.token,
      record { u = r.0; holds = record { used = r.1.within; needed = r.1.holds }; least = λ v q. denies v.first r.0.first (r.1.lowest v q.used q.needed); path_is = refl; offset_is = refl },
    )
    | inr none ↦ absurd (none u h.used h.needed)
  ]
    where
      Is : Used At → Type 0
      Is v = IsNeeded (names_of_files files reads) (with_dropped files reads k path) (reference_of (text_of files reads) entry_name v)

      decide : (v : Used At) → Is v ⊎ (Is v → ⊥)
      decide v = needed_or (names_of_files files reads) (with_dropped files reads k path) (reference_of (text_of files reads) entry_name v)

-- what the two cases say
captured_by : (files : List FileOf) (reads : List ReadOf) (file path : List ℕ) (n : ℕ) → AdditionCase files reads file path n → n ≡ 7
    → (k to : ℕ) × IsPlaceOf files file k × IsPlaceOf files path to × ((u : Used At) × IsOvertakenIn files reads k to u)
captured_by files reads file path _ (captured k to u p q h) e = (k, to, p, q, (u, h))
captured_by files reads file path _ (unknown_file h) e = absurd (omega (arith, e))
captured_by files reads file path _ (unknown_path h) e = absurd (omega (arith, e))
captured_by files reads file path _ (already_imported k p h) e = absurd (omega (arith, e))
captured_by files reads file path _ (cycle k to p q l) e = absurd (omega (arith, e))

needed_in : (files : List FileOf) (reads : List ReadOf) (file path : List ℕ) (n : ℕ) → DropCase files reads file path n → n ≡ 15
    → (k : ℕ) × IsPlaceOf files file k × ((u : Used At) × IsNeededIn files reads k path u)
needed_in files reads file path _ (no_such_file h) e = absurd (omega (arith, e))
needed_in files reads file path _ (not_imported k p h) e = absurd (omega (arith, e))
needed_in files reads file path _ (needed k u p h) e = (k, p, (u, h))

-- a path has one place
one_place : (files : List FileOf) (path : List ℕ) (k l : ℕ) → IsPlaceOf files path k → IsPlaceOf files path l → k ≡ l
one_place files path k l p q = same_Some k l (sym p ∙ q)

pub overtaken_places_are_there : OvertakenPlacesAreThere
overtaken_places_are_there files reads file path c =
    let h = captured_by files reads file path 7 c refl in
    let r = overtaken_there files reads h.0 h.1 h.4.0 h.4.1 in
    (r.0, r.1, (h.0, h.1, h.2, h.3, r.2))

pub overtaken_places_are_one : OvertakenPlacesAreOne
overtaken_places_are_one files reads file path place other offset at x y =
    let files_same = one_place files file x.0 y.0 x.2 y.2 in
    let paths_same = one_place files path x.1 y.1 x.3 y.3 in
    let first = subst (λ (k : ℕ). IsFirstPlace files reads (IsOvertakenIn files reads k y.1) place offset) files_same (subst (λ (to : ℕ). IsFirstPlace files reads (IsOvertakenIn files reads x.0 to) place offset) paths_same x.4) in
    places_are_one files reads (IsOvertakenIn files reads y.0 y.1) place other offset at first y.4

pub needed_places_are_there : NeededPlacesAreThere
needed_places_are_there files reads file path c =
    let h = needed_in files reads file path 15 c refl in
    let r = needed_there files reads h.0 path h.2.0 h.2.1 in
    (r.0, r.1, (h.0, h.1, r.2))

pub needed_places_are_one : NeededPlacesAreOne
needed_places_are_one files reads file path place other offset at x y =
    places_are_one files reads (IsNeededIn files reads y.0 path) place other offset at (subst (λ (k : ℕ). IsFirstPlace files reads (IsNeededIn files reads k path) place offset) (one_place files file x.0 y.0 x.1 y.1) x.2) y.2

-- ---- they would mean something else

-- where overtaken references are known to
pub overtaken_means_else : ((w : Workspace) (imports : List Import) (r : Reference) → IsOvertaken w (with_imports w imports) r → (m : List (List ℕ)) → meaning w r ≡ Some m → meaning (with_imports w imports) r ≢ Some m) → OvertakenMeansElse
overtaken_means_else differs files reads k to u c h same =
    let w = names_of_files files reads in
    let r = reference_of (text_of files reads) entry_name u in
    let m = has_meaning (meaning w r) ((linked files reads c).resolved r (contains_map (reference_of (text_of files reads) entry_name) (link_skeleton files reads).used u h.used)) in
    differs w (link_imports files reads ++ import_of k to ∷ []) r h.overtaken m.0 m.1 (same ∙ m.1)

pub needed_means_else : ((w : Workspace) (imports : List Import) → IsLinked w → (r : Reference) → IsNeeded w (with_imports w imports) r → (m : List (List ℕ)) → meaning w r ≡ Some m → meaning (with_imports w imports) r ≢ Some m) → NeededMeansElse
needed_means_else differs files reads k path u c h same =
    let w = names_of_files files reads in
    let r = reference_of (text_of files reads) entry_name u in
    let ok = linked files reads c in
    let m = has_meaning (meaning w r) (ok.resolved r (contains_map (reference_of (text_of files reads) entry_name) (link_skeleton files reads).used u h.used)) in
    differs w (imports_of (paths_of files) (filter (λ a. not (is_import_of k path a)) (asked_in files reads))) ok r h.needed m.0 m.1 (same ∙ m.1)
