-- A name that neither case 1 nor case 2 refuses to delete is that of one written field (for the crates above).
use Rattle.std.proofs.Common.{◌≡◌, ◌≢◌, ◌⊎◌, inl, inr, ℕ, zero, suc, false, List, [], refl, sym, ◌∙◌, ap, Contains}
use Rattle.proto_case.specs.Camel.{entry_name}
use Rattle.proto_base.proofs.Lists.{contains_map}
use Rattle.proto_files.proofs.Common.{HasNoFault, AreRead, ReadOf, FileOf}
use Rattle.proto_names_rules.specs.declared.kind.Kind.{Kind}
use Rattle.proto_names_rules.specs.declared.kind.Kind.TheVariants.{Package, Field}
use Rattle.proto_names_rules.proofs.Common.{joined, Symbol, symbol_of, joined_apart, one_symbol}
use Rattle.proto_names_imports.proofs.Common.{LinkFaults, link_skeleton, names_of_files, text_of, names_are_plain}
use Rattle.proto_edit_rename_laws.proofs.Common.{IsUnknown, RenameCase, unknown_target as unknown_renamed, kind_not_allowed as kind_not_renamed, Target, may_rename, files_are_linked, targets_are_one, targets_are_there}
use Rattle.proto_edit_rules.specs.DeleteField.{DeletionCase, IsField, kind_not_allowed, unknown_target}
use Rattle.proto_edit_statement_laws.specs.Fields.{NamedFieldsAreOne, NamedFieldsAreThere, FieldsMayGo}

field_or : (k : Kind) → (k ≡ Field) ⊎ (k ≢ Field)
field_or Field = inl refl
field_or _ = inr (λ e. cc)

-- a kind that may not be renamed is not a field's
no_field : (k : Kind) → may_rename k ≡ false → k ≢ Field
no_field k h e = apart (sym (ap may_rename e) ∙ h)
  where
    apart : may_rename Field ≡ false → ⊥
    apart q = cc

-- ---- what the cases say, by their numbers

abbrev SaysRename : List FileOf → List ReadOf → List ℕ → ℕ → Type 0
SaysRename files reads name (suc zero) = IsUnknown files reads name
SaysRename files reads name (suc (suc zero)) = (s : Symbol) × Contains (names_of_files files reads).symbols s × (joined s.name ≡ name) × (may_rename s.kind ≡ false)
SaysRename files reads name _ = Unit {0}

abbrev SaysDeletion : List FileOf → List ReadOf → List ℕ → ℕ → Type 0
SaysDeletion files reads name (suc zero) = IsUnknown files reads name
SaysDeletion files reads name (suc (suc zero)) = (s : Symbol) × Contains (names_of_files files reads).symbols s × (joined s.name ≡ name) × (s.kind ≢ Field)
SaysDeletion files reads name _ = Unit {0}

says_rename : (files : List FileOf) (reads : List ReadOf) (name to : List ℕ) (n : ℕ) → RenameCase files reads name to n → SaysRename files reads name n
says_rename files reads name to _ (unknown_renamed h) = h
says_rename files reads name to _ (kind_not_renamed s c n k) = (s, c, n, k)
says_rename files reads name to _ _ = tt

says_deletion : (files : List FileOf) (reads : List ReadOf) (name : List ℕ) (n : ℕ) → DeletionCase files reads name n → SaysDeletion files reads name n
says_deletion files reads name _ (unknown_target h) = h
says_deletion files reads name _ (kind_not_allowed s c n k) = (s, c, n, k)
says_deletion files reads name _ _ = tt

-- ---- the laws

pub fields_are_there : NamedFieldsAreThere
fields_are_there files reads name r known allowed =
    let t = targets_are_there files reads name [] r
    (λ c. known (unknown_target (says_rename files reads name [] 1 c)))
    (λ c. (let s = says_rename files reads name [] 2 c in allowed (kind_not_allowed s.0 s.1 s.2 (no_field s.0.kind s.3)))) in
    elim (field_or t.0.aim.kind) [
      | inl kind ↦ (t.0, record { named = t.1; kind = kind })
      | inr other ↦ absurd (allowed (kind_not_allowed (symbol_of (text_of files reads) entry_name t.0.aim) (contains_map (symbol_of (text_of files reads) entry_name) (link_skeleton files reads).declared t.0.aim t.1.within) t.1.name_is other))
    ]

pub fields_are_one : NamedFieldsAreOne
fields_are_one files reads name t u r clean a b = targets_are_one files reads name t u r clean a.named b.named

module _ (files : List FileOf) (reads : List ReadOf) (name : List ℕ) (t : Target) (r : AreRead files reads) (clean : HasNoFault (LinkFaults files)) (f : IsField files reads name t) where
  abbrev field : Symbol
  field = symbol_of (text_of files reads) entry_name t.aim

  there : Contains (names_of_files files reads).symbols (symbol_of (text_of files reads) entry_name t.aim)
  there = contains_map (symbol_of (text_of files reads) entry_name) (link_skeleton files reads).declared t.aim f.named.within

  -- a symbol of its name is the field
  is_field : (s : Symbol) → Contains (names_of_files files reads).symbols s → joined s.name ≡ name → s.kind ≡ Field
  is_field s c n =
      let names = joined_apart s.name field.name (names_are_plain files reads r s c) (names_are_plain files reads r field there) (n ∙ sym f.named.name_is) in
      elim (one_symbol (names_of_files files reads).symbols (files_are_linked files reads r clean).unique s field c there names) [
        | inl same ↦ ap (λ (z : Symbol). z.kind) same ∙ f.kind
        | inr both ↦ absurd (no_package (sym f.kind ∙ both.1))
      ]
    where
      no_package : Field ≡ Package → ⊥
      no_package e = cc

pub fields_may_go : FieldsMayGo
fields_may_go files reads name t r clean f = (
  λ c. says_deletion files reads name 1 c (field files reads name t r clean f) (there files reads name t r clean f) f.named.name_is,
  λ c. (let s = says_deletion files reads name 2 c in s.3 (is_field files reads name t r clean f s.0 s.1 s.2)),
)
