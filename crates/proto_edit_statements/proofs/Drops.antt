-- When a dropped import is refused.
use Rattle.std.proofs.Common.{◌≡◌, ◌⊎◌, ℕ, ◌<◌, List, length, Some, None, refl, sym, ap, subst, ◌∙◌, inl, inr, arith, string_bytes}
use Rattle.std.proofs.lemmas.Option.{none-some, same_Some}
use Rattle.proto_text.specs.Texts.{offset_at}
use Rattle.proto_files.proofs.Common.{ReadOf, AreRead, read_at, FileOf, file_at, read_once}
use Rattle.proto_edit_entries.specs.declared.refusal.Refusal.{Refusal}
use Rattle.proto_edit_entries.specs.declared.refusal.Refusal.TheVariants as refusal
use Rattle.proto_names_rules.proofs.Common.{At, Used}
use Rattle.proto_names.specs.Linking.{RefId}
use Rattle.proto_edit_captures.proofs.Common.{RefusalStandsAtToken, IsFirstPlace}
use Rattle.proto_edit_rules.specs.DropImport.{DropCase, IsNeededIn, needed, no_such_file, not_imported}
use Rattle.proto_edit_rules.specs.AddImport.{IsImported}
use Rattle.proto_edit_rules.specs.Statements.{IsNoFile, IsPlaceOf}
use Rattle.proto_edit_statements.specs.Edits.{IsDropCase, IsDropRefusal}
use Rattle.proto_edit_statements.specs.Steps.{IsFirstNeeded, IsNeededAtToken}
use Rattle.proto_names.proofs.UsesOfFiles.{from_use}

module _ (files : List FileOf) (reads : List ReadOf) (file path : List ℕ) where
  abbrev IsAbsent : Type 0
  IsAbsent = (k : ℕ) × IsPlaceOf files file k × (IsImported files reads k path → ⊥)

  abbrev IsWanted : Type 0
  IsWanted = (k : ℕ) × (u : Used At) × IsPlaceOf files file k × IsNeededIn files reads k path u

  -- which case it is
  abbrev IsWhich : ℕ → Type 0
  IsWhich n = ((n ≡ 11) × IsNoFile files file) ⊎ (((n ≡ 13) × IsAbsent) ⊎ ((n ≡ 15) × IsWanted))

  which : (n : ℕ) → DropCase files reads file path n → IsWhich n
  which _ (no_such_file h) = inl (refl, h)
  which _ (not_imported k pk h) = inr (inl (refl, (k, pk, h)))
  which _ (needed k u pk h) = inr (inr (refl, (k, u, pk, h)))

abbrev pub IsFree : List FileOf → List ℕ → List ℕ → ℕ → Type 0
IsFree files file path bound = (n : ℕ) → n < bound → IsDropCase files file path n → ⊥

-- a first use that needs the import is of a file that is there
pub needed_inside : (files : List FileOf) (reads : List ReadOf) → AreRead files reads → (k : ℕ) (path : List ℕ) (id : RefId) → IsFirstNeeded files reads k path (Some id) → id.file < length files
needed_inside files reads are k path id x =
    let o = from_use 0 reads x.0 x.1.used in
    let l = o.2 in
    let s = are.same in
    let e1 = ap (λ (z : Used At). z.first.file) o.4 in
    let e2 = ap (λ (z : At). z.file) x.2 in
    omega (arith, l, s, e1, e2)

module _ (files : List FileOf) (reads : List ReadOf) (are : AreRead files reads) (file path : List ℕ) where
  abbrev case : ℕ → Type 0
  case n = IsDropCase files file path n

  -- by this reading
  cased : (n : ℕ) → case n → IsWhich files reads file path n
  cased n h = which files reads file path n (subst (λ rs. DropCase files rs file path n) (read_once files h.0 reads h.1 are) h.2)

  pub no_file : IsNoFile files file → IsDropRefusal files file path refusal.UnknownFile
  no_file none = record { is = (reads, are, no_such_file none); least = below }
    where
      below : (n : ℕ) → n < 11 → case n → ⊥
      below n l h = elim (cased n h) [
        | inl x ↦ (let e = x.0 in omega (arith, l, e))
        | inr (inl x) ↦ (let e = x.0 in omega (arith, l, e))
        | inr (inr x) ↦ (let e = x.0 in omega (arith, l, e))
      ]

  module _ (k : ℕ) (place : IsPlaceOf files file k) where
    pub refused_13 : (IsImported files reads k path → ⊥) → IsDropRefusal files file path refusal.NotImported
    refused_13 none = record { is = (reads, are, not_imported k place none); least = below }
      where
        below : (n : ℕ) → n < 13 → case n → ⊥
        below n l h = elim (cased n h) [
          | inl x ↦ none-some k (sym x.1 ∙ place)
          | inr (inl x) ↦ (let e = x.0 in omega (arith, l, e))
          | inr (inr x) ↦ (let e = x.0 in omega (arith, l, e))
        ]

    pub free_13 : IsImported files reads k path → IsFree files file path 15
    free_13 is n l h = elim (cased n h) [
      | inl x ↦ none-some k (sym x.1 ∙ place)
      | inr (inl x) ↦ x.1.2 (subst (λ m. IsImported files reads m path) (same_Some k x.1.0 (sym place ∙ x.1.1)) is)
      | inr (inr x) ↦ (let e = x.0 in omega (arith, l, e))
    ]

    -- ---- case 15

    pub free_15 : IsFree files file path 15 → IsFirstNeeded files reads k path None → (n : ℕ) → IsDropCase files file path n → ⊥
    free_15 free none n h = elim (cased n h) [
      | inl x ↦ (let e = x.0 in free n (omega (arith, e)) h)
      | inr (inl x) ↦ (let e = x.0 in free n (omega (arith, e)) h)
      | inr (inr x) ↦ none x.1.1 (subst (λ m. IsNeededIn files reads m path x.1.1) (same_Some x.1.0 k (sym x.1.2 ∙ place)) x.1.3)
    ]

    first_place : (id : RefId) → IsFirstNeeded files reads k path (Some id) → (where_is : List ℕ) (offset : ℕ) → RefusalStandsAtToken files id.file id.token where_is offset
        → IsFirstPlace files reads (IsNeededIn files reads k path) where_is offset
    first_place id x where_is offset stands = record {
      u = x.0;
      holds = x.1;
      least = x.3;
      path_is = stands.0 ∙ ap (λ (z : At). (file_at files z.file).path) (sym x.2);
      offset_is = stands.1 (read_at reads id.file).tokens (are.tokens id.file (needed_inside files reads are k path id x)) ∙ ap (λ (z : At). offset_at (read_at reads z.file).tokens z.token) (sym x.2);
    }

    pub refused_15 : IsFree files file path 15 → (id : RefId) → IsFirstNeeded files reads k path (Some id) → (r : Refusal) → IsNeededAtToken files id.file id.token r → IsDropRefusal files file path r
    refused_15 free id x (refusal.Needed where_is offset) h =
        (record { is = (reads, are, needed k x.0 place x.1); least = free }, (reads, are, (k, place, first_place id x (string_bytes where_is) offset h)))
    refused_15 free id x _ h = absurd h
