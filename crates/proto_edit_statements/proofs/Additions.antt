-- When an added import is refused.
use Rattle.std.proofs.Common.{◌≡◌, ◌⊎◌, ℕ, ◌+◌, ◌<◌, List, length, Some, None, refl, sym, ap, subst, ◌∙◌, inl, inr, arith, string_bytes, Contains}
use Rattle.std.proofs.lemmas.Option.{none-some, same_Some}
use Rattle.proto_case.specs.Camel.{entry_name}
use Rattle.proto_text.specs.Texts.{offset_at}
use Rattle.proto_files.proofs.Common.{ReadOf, AreRead, read_at, FileOf, file_at, read_once}
use Rattle.proto_edit_entries.specs.declared.refusal.Refusal.{Refusal}
use Rattle.proto_edit_entries.specs.declared.refusal.Refusal.TheVariants as refusal
use Rattle.proto_names_imports.specs.Links.{link_imports, link_skeleton, names_of_files, text_of, uses_of}
use Rattle.proto_names_rules.proofs.Common.{Leads, IsOvertaken, At, at, used_in, Workspace, Used, reference_of}
use Rattle.proto_edit_captures.proofs.Common.{IsCapturedPlace, RefusalStandsAtToken, IsFirstPlace, StandsBefore}
use Rattle.proto_edit_captures.specs.Overtaking.{IsFirstOvertaken, Overtakes}
use Rattle.proto_edit_statement_laws.proofs.ChangesCommon.{splice_of_addition, IsTooLong}
use Rattle.proto_edit_rules.specs.AddImport.{AdditionCase, IsImported, IsOvertakenIn, already_imported, captured, cycle, unknown_file, unknown_path, with_added, RefusesAddition, by_name, too_large}
use Rattle.proto_edit_rules.specs.Statements.{IsNoFile, IsPlaceOf}
use Rattle.proto_edit_statements.specs.Edits.{IsAdditionCase, IsAdditionRefusal, IsLeastOf}
use Rattle.proto_names.proofs.UsesOfFiles.{from_use, use_there}

-- ---- the cases by their numbers

module _ (files : List FileOf) (reads : List ReadOf) (file path : List ℕ) where
  abbrev pub IsOvertaking : Type 0
  IsOvertaking = (k to : ℕ) × (u : Used At) × IsPlaceOf files file k × IsPlaceOf files path to × IsOvertakenIn files reads k to u

  abbrev pub IsUnknownFile : Type 0
  IsUnknownFile = IsNoFile files file ⊎ IsNoFile files path

  abbrev pub IsAgain : Type 0
  IsAgain = (k : ℕ) × IsPlaceOf files file k × IsImported files reads k path

  abbrev pub IsCycle : Type 0
  IsCycle = (k to : ℕ) × IsPlaceOf files file k × IsPlaceOf files path to × Leads (link_imports files reads) to k

  abbrev pub IsLong : Type 0
  IsLong = (k : ℕ) × IsPlaceOf files file k × IsTooLong (file_at files k) (splice_of_addition files reads k path)

  -- which case it is
  abbrev pub IsWhich : ℕ → Type 0
  IsWhich n = ((n ≡ 7) × IsOvertaking) ⊎ (((n ≡ 11) × IsUnknownFile) ⊎ (((n ≡ 12) × IsAgain) ⊎ (((n ≡ 14) × IsCycle) ⊎ ((n ≡ 16) × IsLong))))

  which_case : (n : ℕ) → AdditionCase files reads file path n → IsWhich n
  which_case _ (captured k to u pk pt h) = inl (refl, (k, to, u, pk, pt, h))
  which_case _ (unknown_file h) = inr (inl (refl, inl h))
  which_case _ (unknown_path h) = inr (inl (refl, inr h))
  which_case _ (already_imported k pk h) = inr (inr (inl (refl, (k, pk, h))))
  which_case _ (cycle k to pk pt h) = inr (inr (inr (inl (refl, (k, to, pk, pt, h)))))

  pub which : (n : ℕ) → RefusesAddition files reads file path n → IsWhich n
  which _ (by_name n c) = which_case n c
  which _ (too_large k pk h) = inr (inr (inr (inr (refl, (k, pk, h)))))

abbrev pub IsFree : List FileOf → List ℕ → List ℕ → ℕ → Type 0
IsFree files file path bound = (n : ℕ) → n < bound → IsAdditionCase files file path n → ⊥

module _ (files : List FileOf) (reads : List ReadOf) (are : AreRead files reads) (file path : List ℕ) where
  abbrev case : ℕ → Type 0
  case n = IsAdditionCase files file path n

  -- by this reading
  cased : (n : ℕ) → case n → IsWhich files reads file path n
  cased n h = which files reads file path n (subst (λ rs. RefusesAddition files rs file path n) (read_once files h.0 reads h.1 are) h.2)

  pub no_file : IsNoFile files file → IsAdditionRefusal files file path refusal.UnknownFile
  no_file none = record { is = (reads, are, by_name 11 (unknown_file none)); least = below }
    where
      below : (n : ℕ) → n < 11 → case n → ⊥
      below n l h = elim (cased n h) [
        | inl x ↦ none-some x.1.0 (sym none ∙ x.1.3)
        | inr (inl x) ↦ (let e = x.0 in omega (arith, l, e))
        | inr (inr (inl x)) ↦ (let e = x.0 in omega (arith, l, e))
        | inr (inr (inr (inl x))) ↦ (let e = x.0 in omega (arith, l, e))
        | inr (inr (inr (inr x))) ↦ (let e = x.0 in omega (arith, l, e))
      ]

  pub no_path : IsNoFile files path → IsAdditionRefusal files file path refusal.UnknownFile
  no_path none = record { is = (reads, are, by_name 11 (unknown_path none)); least = below }
    where
      below : (n : ℕ) → n < 11 → case n → ⊥
      below n l h = elim (cased n h) [
        | inl x ↦ none-some x.1.1 (sym none ∙ x.1.4)
        | inr (inl x) ↦ (let e = x.0 in omega (arith, l, e))
        | inr (inr (inl x)) ↦ (let e = x.0 in omega (arith, l, e))
        | inr (inr (inr (inl x))) ↦ (let e = x.0 in omega (arith, l, e))
        | inr (inr (inr (inr x))) ↦ (let e = x.0 in omega (arith, l, e))
      ]

  module _ (k to : ℕ) (place : IsPlaceOf files file k) (target : IsPlaceOf files path to) (within : k < length files) where
    abbrev v : Workspace
    v = with_added files reads k to

    -- ---- case 7

    at_these : (x : IsOvertaking files reads file path) → IsOvertakenIn files reads k to x.2
    at_these x =
        let same_k : x.0 ≡ k = same_Some x.0 k (sym x.3 ∙ place) in
        let same_to : x.1 ≡ to = same_Some x.1 to (sym x.4 ∙ target) in
        subst (λ a. IsOvertakenIn files reads a to x.2) same_k (subst (λ b. IsOvertakenIn files reads x.0 b x.2) same_to x.5)

    own_use : (u : Used At) → IsOvertakenIn files reads k to u → (x : Used ℕ) × (used_in k x ≡ u) × Overtakes files reads v k x
    own_use u h =
        let o = from_use 0 reads u h.used in
        let z : 0 + o.0 ≡ o.0 = omega arith in
        let here : used_in o.0 o.1 ≡ u = subst (λ m. used_in m o.1 ≡ u) z o.4 in
        let same : o.0 ≡ k = ap (λ (y : Used At). y.file) here ∙ h.own in
        let is : used_in k o.1 ≡ u = subst (λ m. used_in m o.1 ≡ u) same here in
        (o.1, is, (subst (λ m. Contains (uses_of reads m) o.1) same o.3, subst (λ y. IsOvertaken (names_of_files files reads) v (reference_of (text_of files reads) entry_name y)) (sym is) h.overtaken))

    pub free_7 : IsFirstOvertaken files reads v k None → IsFree files file path 11
    free_7 none n l h = elim (cased n h) [
      | inl x ↦ (let y = own_use x.1.2 (at_these x.1) in none y.0 y.2)
      | inr (inl x) ↦ (let e = x.0 in omega (arith, l, e))
      | inr (inr (inl x)) ↦ (let e = x.0 in omega (arith, l, e))
      | inr (inr (inr (inl x))) ↦ (let e = x.0 in omega (arith, l, e))
      | inr (inr (inr (inr x))) ↦ (let e = x.0 in omega (arith, l, e))
    ]

    first_place : (token : ℕ) → IsFirstOvertaken files reads v k (Some token) → (where_is : List ℕ) (offset : ℕ) → RefusalStandsAtToken files k token where_is offset
        → IsFirstPlace files reads (IsOvertakenIn files reads k to) where_is offset
    first_place token x where_is offset stands = record {
      u = used_in k x.0;
      holds = record { used = there; own = refl; overtaken = x.1.1 };
      least = least;
      path_is = stands.0;
      offset_is = stands.1 (read_at reads k).tokens (are.tokens k within) ∙ ap (offset_at (read_at reads k).tokens) (sym x.2);
    }
      where
        there : Contains (link_skeleton files reads).used (used_in k x.0)
        there =
            let z : 0 + k ≡ k = omega arith in
            let s = are.same in
            subst (λ m. Contains (link_skeleton files reads).used (used_in m x.0)) z (use_there 0 reads k x.0 (omega (arith, within, s)) x.1.0)

        least : (u : Used At) → IsOvertakenIn files reads k to u → StandsBefore u.first (at k x.0.first) → ⊥
        least u h before =
            let y = own_use u h in
            let first : at k y.0.first ≡ u.first = ap (λ (z : Used At). z.first) y.1 in
            let e1 = ap (λ (z : At). z.file) first in
            let e2 = ap (λ (z : At). z.token) first in
            let e3 = x.2 in
            elim before [
              | inl b ↦ omega (arith, b, e1)
              | inr b ↦ (let lower = b.1 in x.3 y.0 y.2 (omega (arith, lower, e2, e3)))
            ]

    overtaken_use : (token : ℕ) (x : IsFirstOvertaken files reads v k (Some token)) → IsOvertakenIn files reads k to (used_in k x.0)
    overtaken_use token x =
        let z : 0 + k ≡ k = omega arith in
        let s = are.same in
        record { used = subst (λ m. Contains (link_skeleton files reads).used (used_in m x.0)) z (use_there 0 reads k x.0 (omega (arith, within, s)) x.1.0); own = refl; overtaken = x.1.1 }

    least_7 : (token : ℕ) → IsFirstOvertaken files reads v k (Some token) → IsLeastOf (IsAdditionCase files file path) 7
    least_7 token x = record { is = (reads, are, by_name 7 (captured k to (used_in k x.0) place target (overtaken_use token x))); least = below }
      where
        below : (n : ℕ) → n < 7 → case n → ⊥
        below n l h = elim (cased n h) [
          | inl x ↦ (let e = x.0 in omega (arith, l, e))
          | inr (inl x) ↦ (let e = x.0 in omega (arith, l, e))
          | inr (inr (inl x)) ↦ (let e = x.0 in omega (arith, l, e))
          | inr (inr (inr (inl x))) ↦ (let e = x.0 in omega (arith, l, e))
          | inr (inr (inr (inr x))) ↦ (let e = x.0 in omega (arith, l, e))
        ]

    pub refused_7 : (token : ℕ) → IsFirstOvertaken files reads v k (Some token) → (r : Refusal) → IsCapturedPlace files k token r → IsAdditionRefusal files file path r
    refused_7 token x (refusal.Captured where_is offset) h = (least_7 token x, (reads, are, (k, to, place, target, first_place token x (string_bytes where_is) offset h)))
    refused_7 token x _ h = absurd h

    -- ---- cases 12 and 14

    free_11 : IsFree files file path 11 → IsFree files file path 12
    free_11 free n l h = elim (cased n h) [
      | inl x ↦ (let e = x.0 in free n (omega (arith, e)) h)
      | inr (inl (e, inl none)) ↦ none-some k (sym none ∙ place)
      | inr (inl (e, inr none)) ↦ none-some to (sym none ∙ target)
      | inr (inr (inl x)) ↦ (let e = x.0 in omega (arith, l, e))
      | inr (inr (inr (inl x))) ↦ (let e = x.0 in omega (arith, l, e))
      | inr (inr (inr (inr x))) ↦ (let e = x.0 in omega (arith, l, e))
    ]

    pub refused_12 : IsFree files file path 11 → IsImported files reads k path → IsAdditionRefusal files file path refusal.AlreadyImported
    refused_12 free h = record { is = (reads, are, by_name 12 (already_imported k place h)); least = free_11 free }

    free_12 : IsFree files file path 11 → (IsImported files reads k path → ⊥) → IsFree files file path 14
    free_12 free none n l h = elim (cased n h) [
      | inl x ↦ (let e = x.0 in free n (omega (arith, e)) h)
      | inr (inl x) ↦ (let e = x.0 in free_11 free n (omega (arith, e)) h)
      | inr (inr (inl x)) ↦ none (subst (λ m. IsImported files reads m path) (same_Some x.1.0 k (sym x.1.1 ∙ place)) x.1.2)
      | inr (inr (inr (inl x))) ↦ (let e = x.0 in omega (arith, l, e))
      | inr (inr (inr (inr x))) ↦ (let e = x.0 in omega (arith, l, e))
    ]

    pub refused_14 : IsFree files file path 11 → (IsImported files reads k path → ⊥) → Leads (link_imports files reads) to k → IsAdditionRefusal files file path refusal.Cycle
    refused_14 free none h = record { is = (reads, are, by_name 14 (cycle k to place target h)); least = free_12 free none }

    pub free_14 : IsFree files file path 11 → (IsImported files reads k path → ⊥) → (Leads (link_imports files reads) to k → ⊥) → IsFree files file path 15
    free_14 free none other n l h = elim (cased n h) [
      | inl x ↦ (let e = x.0 in free n (omega (arith, e)) h)
      | inr (inl x) ↦ (let e = x.0 in free_11 free n (omega (arith, e)) h)
      | inr (inr (inl x)) ↦ (let e = x.0 in free_12 free none n (omega (arith, e)) h)
      | inr (inr (inr (inl x))) ↦
          other (subst (λ m. Leads (link_imports files reads) to m) (same_Some x.1.0 k (sym x.1.2 ∙ place)) (subst (λ m. Leads (link_imports files reads) m x.1.0) (same_Some x.1.1 to (sym x.1.3 ∙ target)) x.1.4))
      | inr (inr (inr (inr x))) ↦ (let e = x.0 in omega (arith, l, e))
    ]

  -- ---- case 16

  module _ (k : ℕ) (place : IsPlaceOf files file k) (free : IsFree files file path 15) where
    free_15 : IsFree files file path 16
    free_15 n l h = elim (cased n h) [
      | inl x ↦ (let e = x.0 in free n (omega (arith, e)) h)
      | inr (inl x) ↦ (let e = x.0 in free n (omega (arith, e)) h)
      | inr (inr (inl x)) ↦ (let e = x.0 in free n (omega (arith, e)) h)
      | inr (inr (inr (inl x))) ↦ (let e = x.0 in free n (omega (arith, e)) h)
      | inr (inr (inr (inr x))) ↦ (let e = x.0 in omega (arith, l, e))
    ]

    pub refused_16 : IsTooLong (file_at files k) (splice_of_addition files reads k path) → IsAdditionRefusal files file path refusal.TooLarge
    refused_16 h = record { is = (reads, are, too_large k place h); least = free_15 }

    pub free_16 : (IsTooLong (file_at files k) (splice_of_addition files reads k path) → ⊥) → (n : ℕ) → IsAdditionCase files file path n → ⊥
    free_16 none n h = elim (cased n h) [
      | inl x ↦ (let e = x.0 in free n (omega (arith, e)) h)
      | inr (inl x) ↦ (let e = x.0 in free n (omega (arith, e)) h)
      | inr (inr (inl x)) ↦ (let e = x.0 in free n (omega (arith, e)) h)
      | inr (inr (inr (inl x))) ↦ (let e = x.0 in free n (omega (arith, e)) h)
      | inr (inr (inr (inr x))) ↦ (let m = same_Some x.1.0 k (sym x.1.1 ∙ place) in none (subst (λ j. IsTooLong (file_at files j) (splice_of_addition files reads j path)) m x.1.2))
    ]
