-- A name that is meant is that of one declaration, which stays where its file is not edited.
use Rattle.std.proofs.Common.{◌≡◌, ◌≢◌, ℕ, zero, suc, ◌+◌, ◌<◌, Bool, true, false, cond, List, [], ◌∷◌, ◌++◌, length, get_or, map, Some, refl, sym, ◌∙◌, ap, subst, inl, inr, arith, find, true≢false, Contains}
use Rattle.proto_base.proofs.Common.{Contains-append_cases, Contains-append_left, Contains-append_right, cases_order, contains_cases, contains_head, contains_later, contains_map, from_map, get_or_default, none-some, same_Some}
use Rattle.proto_case.specs.Camel.{entry_name}
use Rattle.proto_base.specs.declared.fault.FaultKind.TheVariants as kind
use Rattle.proto_text.specs.Texts.{offset_at}
use Rattle.proto_files.proofs.Common.{AreRead, FaultAt, FileOf, HasNoFault, ReadOf, file_at, read_at}
use Rattle.proto_names_rules.proofs.Common.{At, Declared, EntryOf, Fault, FileNames, Given, NameFault, Placed, Source, Symbol, Token, Used, all_declared, at, declares, earlier, file_declared, file_placed, is_type, map_agree, map_map, may_resolve_to, meant, name_from_same, name_of, of_package, package_or, place_from, place_of, same_from_name, same_name, shifted_source, spell, symbol_of, wanted_no_package}
use Rattle.proto_names_rules.specs.declared.kind.Kind.{Kind}
use Rattle.proto_names_rules.specs.declared.kind.Kind.TheVariants.{Package}
use Rattle.proto_names_imports.specs.Links.{LinkFaults, link_skeleton, names_in, names_of_files, of_name, text_of, used_named}
use Rattle.proto_names_update.specs.Edited.{AreEdited}
use Rattle.proto_names_update.specs.Relinked.{NoNameClashes}
use Rattle.proto_resolved.specs.SceneOf.{declared_as, meaning_of}
use Rattle.proto_desc_affected.specs.Unaffected.{CleanEditsAreSound}
use Rattle.proto_desc_affected.proofs.Unedited.{as_many, same_reading, same_text}

-- ---- what is found

pub found_passes : {A : Type 0} (p : A → Bool) (xs : List A) (x : A) → find p xs ≡ Some x → Contains xs x × (p x ≡ true)
found_passes p [] x h = absurd (none-some x h)
found_passes {A} p (y ∷ xs) x h = by (found_passes p xs x) (p y) refl h
  where
    by : (find p xs ≡ Some x → Contains xs x × (p x ≡ true)) → (b : Bool) → p y ≡ b → cond b (Some y) (find p xs) ≡ Some x → Contains (y ∷ xs) x × (p x ≡ true)
    by later true e h = (subst (Contains (y ∷ xs)) (same_Some y x h) (contains_head y xs), ap p (sym (same_Some y x h)) ∙ e)
    by later false e h = let r = later h in (contains_later y x xs r.0, r.1)

pub some_found : {A : Type 0} (p : A → Bool) (xs : List A) (x : A) → Contains xs x → p x ≡ true → (y : A) × (find p xs ≡ Some y)
some_found p [] x c e = absurd (omega (arith, c.1))
some_found {A} p (y ∷ xs) x c e = by (λ d. some_found p xs x d e) (p y) refl
  where
    by : (Contains xs x → (z : A) × (find p xs ≡ Some z)) → (b : Bool) → p y ≡ b → (z : A) × (cond b (Some y) (find p xs) ≡ Some z)
    by later true f = (y, refl)
    by later false f = elim (contains_cases y x xs c) [
      | inl same ↦ (let t : p y ≡ true = ap p same ∙ e in absurd (cc))
      | inr d ↦ later d
    ]

-- ---- the file that a declaration is of

pub declared_by : (n : ℕ) (rs : List ReadOf) (d : Declared At) → Contains (all_declared n (map names_in rs)) d → (k : ℕ) × (k < length rs) × ((p : Placed) × Contains (file_placed (names_in (read_at rs k)).items) p × (declares (n + k) p ≡ d))
declared_by n [] d c = absurd (omega (arith, c.1))
declared_by n (r ∷ rs) d c = elim (Contains-append_cases (file_declared n (names_in r)) (all_declared (suc n) (map names_in rs)) d c) [
  | inl h ↦
      let p = from_map (declares n) (file_placed (names_in r).items) d h in
      (0, omega arith, (p.0, p.1, ap (λ m. declares m p.0) {x = n + 0} {y = n} (omega arith) ∙ p.2))
  | inr t ↦
      let p = declared_by (suc n) rs d t in
      (suc p.0, omega (arith, p.1), (p.2.0, p.2.1, ap (λ m. declares m p.2.0) {x = n + suc p.0} {y = suc n + p.0} (omega arith) ∙ p.2.2))
]

pub declared_in : (n k : ℕ) (rs : List ReadOf) (p : Placed) → k < length rs → Contains (file_placed (names_in (read_at rs k)).items) p → Contains (all_declared n (map names_in rs)) (declares (n + k) p)
declared_in n k [] p l c = absurd (omega (arith, l))
declared_in n zero (r ∷ rs) p l c =
    let z : n ≡ n + 0 = omega arith in
    subst (λ m. Contains (all_declared n (map names_in (r ∷ rs))) (declares m p)) z
    (Contains-append_left (file_declared n (names_in r)) (all_declared (suc n) (map names_in rs)) (declares n p) (contains_map (declares n) (file_placed (names_in r).items) p c))
declared_in n (suc k) (r ∷ rs) p l c =
    let z : suc n + k ≡ n + suc k = omega arith in
    subst (λ m. Contains (all_declared n (map names_in (r ∷ rs))) (declares m p)) z
    (Contains-append_right (file_declared n (names_in r)) (all_declared (suc n) (map names_in rs)) (declares (suc n + k) p) (declared_in (suc n) k rs p (omega (arith, l)) c))

-- it stands there
pub place_file : (k : ℕ) (x : At) (path : List (Source ℕ)) → x.file ≡ k → (place_from x (map (shifted_source (at k)) path)).file ≡ k
place_file k x [] e = e
place_file k x (Token t ∷ path) e = place_file k (at k t) path refl
place_file k x (EntryOf t ∷ path) e = place_file k (at k t) path refl
place_file k x (Given w ∷ path) e = place_file k x path e

-- ---- names that do not clash

module _ (text : At → List ℕ) (declared : List (Declared At)) (apart : (f : Fault) → NameFault text declared f → ⊥) where
  -- what has the name of a declaration that is no package is that declaration
  one_of_name : (s t : Declared At) → Contains declared s → Contains declared t → s.kind ≢ Package → name_of text entry_name s.path ≡ name_of text entry_name t.path → t ≡ s
  one_of_name s t cs ct other e = elim (cases_order cs.0 ct.0) [
    | inl same ↦ sym ct.2 ∙ get_or_default declared ct.0 t s ct.1 ∙ ap (λ i. get_or declared i s) (sym same) ∙ cs.2
    | inr (inl below) ↦ elim (package_or t.kind) [
      | inl is_package ↦ absurd (apart _ (of_package s t cs ct other is_package e))
      | inr none ↦ absurd (apart _ (earlier t (cs.0, ct.0, t, below, ct.1, ct.2, ap (λ (d : Declared At). name_of text entry_name d.path) (get_or_default declared cs.0 t s cs.1 ∙ cs.2) ∙ e) none))
    ]
    | inr (inr above) ↦ absurd (apart _ (earlier s (ct.0, cs.0, s, above, cs.1, cs.2, ap (λ (d : Declared At). name_of text entry_name d.path) (get_or_default declared ct.0 s t ct.1 ∙ ct.2) ∙ sym e) other))
  ]

-- the declaration of a name that is no package's
pub record IsNamed (files : List FileOf) (reads : List ReadOf) (name : List (List ℕ)) (d : Declared At) : Type 0 where
  pub there : Contains (link_skeleton files reads).declared d
  pub other : d.kind ≢ Package
  pub spelled : name_of (text_of files reads) entry_name d.path ≡ name

pub no_package : (k : Kind) → is_type k ≡ true → k ≢ Package
no_package k type e = true≢false (sym type ∙ ap is_type e)

-- what a reference means is declared
pub meant_named : (files : List FileOf) (reads : List ReadOf) (file : ℕ) (u : Used ℕ) (name : List (List ℕ)) → meaning_of files reads file u ≡ Some name → (d : Declared At) × IsNamed files reads name d
meant_named files reads file u name means =
    let t = meant (names_of_files files reads) (used_named (text_of files reads) file u) name means in
    let d = from_map (symbol_of (text_of files reads) entry_name) (link_skeleton files reads).declared t.0 t.1 in (
      d.0,
      record {
        there = d.1;
        other = wanted_no_package u.wants d.0.kind (ap (λ (s : Symbol). may_resolve_to u.wants s.kind) d.2 ∙ t.3);
        spelled = ap (λ (s : Symbol). s.name) d.2 ∙ t.2;
      },
    )

-- names of files without faults do not clash
abbrev clash_at : List FileOf → List ReadOf → Fault → FaultAt
clash_at files reads f = record { path = (file_at files f.place.file).path; offset = offset_at (read_at reads f.place.file).tokens f.place.token; kind = kind.DuplicateName }

clean_apart : (files : List FileOf) (reads : List ReadOf) → AreRead files reads → HasNoFault (LinkFaults files) → NoNameClashes files reads
clean_apart files reads read clean f (earlier d h other) = clean (clash_at files reads f) (of_name reads f (clash_at files reads f) read (record { path = refl; offset = refl; number = refl }) (earlier d h other))
clean_apart files reads read clean f (of_package d e cd ce other q same) = clean (clash_at files reads f) (of_name reads f (clash_at files reads f) read (record { path = refl; offset = refl; number = refl }) (of_package d e cd ce other q same))

pub clean_edits_are_sound : CleanEditsAreSound
clean_edits_are_sound places before was files reads are clean_before clean_now = record {
  edited = are;
  apart_before = clean_apart before was are.were_read clean_before;
  apart_now = clean_apart files reads are.are_read clean_now;
}

-- where names do not clash it is found by its name
pub declared_named : (files : List FileOf) (reads : List ReadOf) → NoNameClashes files reads → (name : List (List ℕ)) (d : Declared At) → IsNamed files reads name d → declared_as files reads name ≡ Some d
declared_named files reads apart name d is =
    let declared = (link_skeleton files reads).declared in
    let spelled : Declared At → List (List ℕ) = λ x. name_of (text_of files reads) entry_name x.path in
    let f = some_found (λ x. same_name (spelled x) name) declared d is.there (same_from_name (spelled d) name is.spelled) in
    let g = found_passes (λ x. same_name (spelled x) name) declared f.0 f.1 in
    f.1 ∙ ap (λ (x : Declared At). Some x) (one_of_name (text_of files reads) declared apart d f.0 is.there g.0 is.other (is.spelled ∙ sym (name_from_same (spelled f.0) name g.1)))

-- of a kind that the reference may resolve to
pub meant_kind : (files : List FileOf) (reads : List ReadOf) → NoNameClashes files reads → (file : ℕ) (u : Used ℕ) (name : List (List ℕ)) → meaning_of files reads file u ≡ Some name → (d : Declared At) → IsNamed files reads name d → may_resolve_to u.wants d.kind ≡ true
meant_kind files reads apart file u name means d is =
    let t = meant (names_of_files files reads) (used_named (text_of files reads) file u) name means in
    let x = from_map (symbol_of (text_of files reads) entry_name) (link_skeleton files reads).declared t.0 t.1 in
    let wanted : may_resolve_to u.wants x.0.kind ≡ true = ap (λ (s : Symbol). may_resolve_to u.wants s.kind) x.2 ∙ t.3 in
    let named : IsNamed files reads name x.0 = record { there = x.1; other = wanted_no_package u.wants x.0.kind wanted; spelled = ap (λ (s : Symbol). s.name) x.2 ∙ t.2 } in
    let same : d ≡ x.0 = same_Some d x.0 (sym (declared_named files reads apart name d is) ∙ declared_named files reads apart name x.0 named) in
    subst (λ (y : Declared At). may_resolve_to u.wants y.kind ≡ true) (sym same) wanted

-- ---- where other files are edited

same_spelling : (text now : At → List ℕ) (file : ℕ) → ((i : ℕ) → now (at file i) ≡ text (at file i)) → (path : List (Source ℕ)) → name_of now entry_name (map (shifted_source (at file)) path) ≡ name_of text entry_name (map (shifted_source (at file)) path)
same_spelling text now file same path =
    map_map (shifted_source (at file)) (spell now entry_name) path
    ∙ map_agree (λ x. spell now entry_name (shifted_source (at file) x)) (λ x. spell text entry_name (shifted_source (at file) x)) path (λ x c. one x)
    ∙ sym (map_map (shifted_source (at file)) (spell text entry_name) path)
  where
    one : (x : Source ℕ) → spell now entry_name (shifted_source (at file) x) ≡ spell text entry_name (shifted_source (at file) x)
    one (Token i) = same i
    one (EntryOf i) = ap entry_name (same i)
    one (Given w) = refl

module _ (places : List ℕ) (before : List FileOf) (was : List ReadOf) (files : List FileOf) (reads : List ReadOf) (are : AreEdited places before was files reads) where
  -- of a file that is not edited it is there still
  pub record IsStill (name : List (List ℕ)) (d : Declared At) : Type 0 where
    pub within : (place_of d).file < length files
    pub named : IsNamed files reads name d

  pub named_still : (name : List (List ℕ)) (d : Declared At) → IsNamed before was name d → (Contains places (place_of d).file → ⊥) → IsStill name d
  named_still name d is elsewhere =
      let p = declared_by 0 was d is.there in
      let k : ℕ = p.0 in
      let zero_more : 0 + k ≡ k = omega arith in
      let declares_it : declares k p.2.0 ≡ d = ap (λ m. declares m p.2.0) (sym zero_more) ∙ p.2.2 in
      let path : List (Source ℕ) = p.2.0.above ++ p.2.0.last ∷ [] in
      let stands : (place_of d).file ≡ k = ap (λ (x : Declared At). (place_of x).file) (sym declares_it) ∙ place_file k (at k 0) path refl in
      let l : k < length files = omega (arith, p.1, are.were_read.same, as_many places before was files reads are) in
      let left : Contains places k → ⊥ = λ c. elsewhere (subst (Contains places) (sym stands) c) in
      let same : names_in (read_at was k) ≡ names_in (read_at reads k) = ap names_in (sym (same_reading places before was files reads are k l left)) in
      let within : Contains (file_placed (names_in (read_at reads k)).items) p.2.0 = subst (λ (f : FileNames). Contains (file_placed f.items) p.2.0) same p.2.1 in
      let there : Contains (all_declared 0 (map names_in reads)) (declares (0 + k) p.2.0) = declared_in 0 k reads p.2.0 (omega (arith, l, are.are_read.same)) within in
      let spelled : (x : Declared At) → declares k p.2.0 ≡ x → name_of (text_of files reads) entry_name x.path ≡ name_of (text_of before was) entry_name x.path =
      λ x e. (
      ap (λ (y : Declared At). name_of (text_of files reads) entry_name y.path) (sym e)
      ∙ same_spelling (text_of before was) (text_of files reads) k (same_text places before was files reads are k l left) path
      ∙ ap (λ (y : Declared At). name_of (text_of before was) entry_name y.path) e) in
      record {
        within = omega (arith, stands, l);
        named = record {
          there = subst (Contains (all_declared 0 (map names_in reads))) p.2.2 there;
          other = is.other;
          spelled = spelled d declares_it ∙ is.spelled;
        };
      }
