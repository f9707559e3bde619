-- Cases 19 and 20 of a deletion.
use Rattle.std.proofs.Common.{◌≡◌, ℕ, Bool, true, List, [], ◌∷◌, Option, Some, None, sym, subst, inl, inr, arith}
use Rattle.proto_base.proofs.Common.{contains_map}
use Rattle.proto_case.specs.Camel.{entry_name}
use Rattle.proto_files.proofs.Common.{HasNoFault, ReadOf, AreRead, FileOf, read_once}
use Rattle.proto_edit_entries.specs.declared.refusal.Refusal.{Refusal}
use Rattle.proto_edit_entries.specs.declared.refusal.Refusal.TheVariants as refusal
use Rattle.proto_names_imports.specs.Links.{LinkFaults, link_skeleton, text_of}
use Rattle.proto_names_rules.proofs.Common.{ArePlain, At, at, joined, name_of, symbol_of}
use Rattle.proto_names_rules.specs.Names.{Name}
use Rattle.proto_names.proofs.Common.{IsLinkOf, LinkOf}
use Rattle.proto_edit_captures.proofs.Common.{Target}
use Rattle.proto_edit_rules.specs.DeleteField.{IsFieldWord, fixed_name, option_value}
use Rattle.proto_edit_rules.specs.Options.{HasWritten, IsOptionWord, is_fixed}
use Rattle.proto_edit_statement_laws.proofs.NamesCommon.{IsField, fields_are_one, fields_are_there}
use Rattle.proto_option_values.specs.OptionValues.{IsOptionValue}
use Rattle.proto_edit_statements.specs.Common.{IsDeletionCase, IsDeletionRefusal, RefusesDeletion, by_name}
use Rattle.proto_edit_statements.proofs.FieldNamed.{IsFree, IsWhich, which}

-- ---- case 19

-- the words that are asked for are the field's
pub asked : (files : List FileOf) (reads : List ReadOf) (t : Target) (file token : ℕ) → t.token ≡ at file token → (word : List ℕ) → word ≡ text_of files reads (at file token)
    → (found : Option Refusal) → IsOptionValue files reads (IsOptionWord files reads file (word ∷ [])) found → IsOptionValue files reads (IsFieldWord files reads t) found
asked files reads t file token at_is word word_is found h =
    subst (λ (k : At). IsOptionValue files reads (IsOptionWord files reads k.file (text_of files reads k ∷ [])) found) (sym at_is)
    (subst (λ (w : List ℕ). IsOptionValue files reads (IsOptionWord files reads file (w ∷ [])) found) word_is h)

module _ (files : List FileOf) (reads : List ReadOf) (are : AreRead files reads) (name : List ℕ) where
  which_of : (n : ℕ) → IsDeletionCase files name n → IsWhich files reads name n
  which_of n h = which files reads name n (subst (λ rs. RefusesDeletion files rs name n) (read_once files h.0 reads h.1 are) h.2)

  pub refused_19 : IsFree files name 17 → (t : Target) → IsField files reads name t → (r : Refusal) → IsOptionValue files reads (IsFieldWord files reads t) (Some r) → IsDeletionRefusal files name r
  refused_19 free t f (refusal.OptionValue path offset) h =
      (record { is = (reads, are, by_name 19 (option_value t h.a f h.holds)); least = below }, (reads, are, (t, f, h)))
    where
      below : IsFree files name 19
      below n l k = elim (which_of n k) [
        | inl x ↦ (let e = x.0 in free n (omega (arith, e)) k)
        | inr (inl x) ↦ (let e = x.0 in free n (omega (arith, e)) k)
        | inr (inr (inl x)) ↦ (let e = x.0 in free n (omega (arith, e)) k)
        | inr (inr (inr (inl x))) ↦ (let e = x.0 in free n (omega (arith, e)) k)
        | inr (inr (inr (inr (inl x)))) ↦ (let e = x.0 in omega (arith, l, e))
        | inr (inr (inr (inr (inr x)))) ↦ (let e = x.0 in omega (arith, l, e))
      ]
  refused_19 free t f _ h = absurd h

  pub free_19 : HasNoFault (LinkFaults files) → IsFree files name 17 → (t : Target) → IsField files reads name t → IsOptionValue files reads (IsFieldWord files reads t) None → IsFree files name 20
  free_19 clean free t f none n l k = elim (which_of n k) [
    | inl x ↦ (let e = x.0 in free n (omega (arith, e)) k)
    | inr (inl x) ↦ (let e = x.0 in free n (omega (arith, e)) k)
    | inr (inr (inl x)) ↦ (let e = x.0 in free n (omega (arith, e)) k)
    | inr (inr (inr (inl x))) ↦ (let e = x.0 in free n (omega (arith, e)) k)
    | inr (inr (inr (inr (inl x)))) ↦ none x.1.1 (subst (λ (z : Target). IsFieldWord files reads z x.1.1) (fields_are_one files reads name x.1.0 t are clean x.1.2 f) x.1.3)
    | inr (inr (inr (inr (inr x)))) ↦ (let e = x.0 in omega (arith, l, e))
  ]

  -- ---- case 20

  -- the field, where no case below 20 refuses
  pub field_there : IsFree files name 20 → (t : Target) × IsField files reads name t
  field_there free = fields_are_there files reads name are
      (λ c. free 1 (omega arith) (reads, are, by_name 1 c))
      (λ c. free 2 (omega arith) (reads, are, by_name 2 c))

  -- its words are plain
  plain_words : (l : LinkOf) → IsLinkOf files l → (t : Target) → IsField files reads name t → ArePlain (name_of (text_of files reads) entry_name t.aim.path)
  plain_words l link t f =
      (link reads are).by.names.plain (symbol_of (text_of files reads) entry_name t.aim)
      (contains_map (symbol_of (text_of files reads) entry_name) (link_skeleton files reads).declared t.aim f.named.within)

  -- what is told of the name is told of its words
  pub fixed_is : (l : LinkOf) → IsLinkOf files l → (t : Target) → IsField files reads name t → (r : Bool) → ((words : Name) → ArePlain words → joined words ≡ name → r ≡ is_fixed words)
      → r ≡ is_fixed (name_of (text_of files reads) entry_name t.aim.path)
  fixed_is l link t f r h = h (name_of (text_of files reads) entry_name t.aim.path) (plain_words l link t f) f.named.name_is

  pub refused_20 : IsFree files name 20 → (t : Target) → IsField files reads name t → HasWritten files → is_fixed (name_of (text_of files reads) entry_name t.aim.path) ≡ true → IsDeletionRefusal files name refusal.FixedName
  refused_20 free t f written fixed = record { is = (reads, are, by_name 20 (fixed_name t f written fixed)); least = free }

  pub free_20 : HasNoFault (LinkFaults files) → IsFree files name 20 → (t : Target) → IsField files reads name t
      → (HasWritten files → is_fixed (name_of (text_of files reads) entry_name t.aim.path) ≡ true → ⊥) → (n : ℕ) → IsDeletionCase files name n → ⊥
  free_20 clean free t f none n k = elim (which_of n k) [
    | inl x ↦ (let e = x.0 in free n (omega (arith, e)) k)
    | inr (inl x) ↦ (let e = x.0 in free n (omega (arith, e)) k)
    | inr (inr (inl x)) ↦ (let e = x.0 in free n (omega (arith, e)) k)
    | inr (inr (inr (inl x))) ↦ (let e = x.0 in free n (omega (arith, e)) k)
    | inr (inr (inr (inr (inl x)))) ↦ (let e = x.0 in free n (omega (arith, e)) k)
    | inr (inr (inr (inr (inr x)))) ↦ none x.1.2 (subst (λ (z : Target). is_fixed (name_of (text_of files reads) entry_name z.aim.path) ≡ true) (fields_are_one files reads name x.1.0 t are clean x.1.1 f) x.1.3)
  ]
