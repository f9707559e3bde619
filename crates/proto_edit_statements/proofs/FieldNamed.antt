-- Cases 1 and 2 of a deletion, by what a link has of the name.
use Rattle.std.proofs.Common.{◌≡◌, ◌≢◌, ◌⊎◌, ℕ, ◌<◌, ◌≤◌, true, false, List, get_or, Option, Some, None, option_map, refl, sym, ap, subst, ◌∙◌, inl, inr, arith, Contains, option_and_then}
use Rattle.proto_base.proofs.Common.{both_ways, cond-false, get_or_default, none-some, same_Some}
use Rattle.proto_files.proofs.Common.{HasNoFault, ReadOf, AreRead, FileOf, file_at as file_of_place, read_once}
use Rattle.proto_edit_entries.specs.declared.refusal.Refusal.TheVariants as refusal
use Rattle.proto_names_imports.specs.Links.{LinkFaults, names_of_files, text_of}
use Rattle.proto_names_rules.specs.declared.kind.Kind.{Kind}
use Rattle.proto_names_rules.specs.declared.kind.Kind.TheVariants.{Field, Package}
use Rattle.proto_names_rules.proofs.Common.{At, place_from, place_of, at, joined, is_package, name_of, Symbol}
use Rattle.proto_names.proofs.Common.{HoldsNames, IsLinkOf, LinkOf, NameOf, declaring_file, name_at, own_file, own_token, name_text, declaring_token}
use Rattle.proto_edit_captures.proofs.Common.{IsUnknown, Target, place_last}
use Rattle.proto_case.specs.Camel.{entry_name}
use Rattle.proto_edit_rules.specs.DeleteField.{IsFieldWord, fixed_name, option_value}
use Rattle.proto_edit_rules.specs.Options.{HasWritten, is_fixed}
use Rattle.proto_edit_statement_laws.proofs.ChangesCommon.{FieldAt, splice_of_deletion, IsTooLong}
use Rattle.proto_edit_statement_laws.proofs.NamesCommon.{DeletionCase, IsAlone, IsField, kind_not_allowed, last_of_oneof, unknown_target, fields_are_there}
use Rattle.proto_edit_statements.specs.Common.{IsDeletionCase, IsDeletionRefusal, IsFieldNamed, RefusesDeletion, by_name, too_large, is_field, is_field_kind}
use Rattle.proto_edit_statements.proofs.Needed.{named_at}

-- ---- the cases by their numbers

module _ (files : List FileOf) (reads : List ReadOf) (name : List ℕ) where
  abbrev pub IsNoField : Type 0
  IsNoField = (s : Symbol) × Contains (names_of_files files reads).symbols s × (joined s.name ≡ name) × (s.kind ≢ Field)

  abbrev pub IsLast : Type 0
  IsLast = (t : Target) × IsField files reads name t × IsAlone reads t.token

  abbrev pub IsLong : Type 0
  IsLong = (f : FieldAt) × IsFieldNamed files reads name f × IsTooLong (file_of_place files f.file) (splice_of_deletion files reads f)

  -- a word of an option may stand for the field
  abbrev pub IsSeen : Type 0
  IsSeen = (t : Target) × (a : At) × IsField files reads name t × IsFieldWord files reads t a

  -- the field is one of an options message, or of what is in one
  abbrev pub IsOfOptions : Type 0
  IsOfOptions = (t : Target) × IsField files reads name t × HasWritten files × (is_fixed (name_of (text_of files reads) entry_name t.aim.path) ≡ true)

  -- it is one of the cases from 16 on
  abbrev pub IsLate : ℕ → Type 0
  IsLate n = ((n ≡ 16) × IsLong) ⊎ (((n ≡ 19) × IsSeen) ⊎ ((n ≡ 20) × IsOfOptions))

  pub late : (n : ℕ) → IsLate n → 16 ≤ n
  late n (inl x) = let e = x.0 in omega (arith, e)
  late n (inr (inl x)) = let e = x.0 in omega (arith, e)
  late n (inr (inr x)) = let e = x.0 in omega (arith, e)

  -- which case it is
  abbrev pub IsWhich : ℕ → Type 0
  IsWhich n = ((n ≡ 1) × IsUnknown files reads name) ⊎ (((n ≡ 2) × IsNoField) ⊎ (((n ≡ 10) × IsLast) ⊎ IsLate n))

  which_case : (n : ℕ) → DeletionCase files reads name n → IsWhich n
  which_case _ (unknown_target h) = inl (refl, h)
  which_case _ (kind_not_allowed s c e k) = inr (inl (refl, (s, c, e, k)))
  which_case _ (last_of_oneof t f a) = inr (inr (inl (refl, (t, f, a))))
  which_case _ (option_value t a f w) = inr (inr (inr (inr (inl (refl, (t, a, f, w))))))
  which_case _ (fixed_name t f written fixed) = inr (inr (inr (inr (inr (refl, (t, f, written, fixed))))))

  pub which : (n : ℕ) → RefusesDeletion files reads name n → IsWhich n
  which _ (by_name n c) = which_case n c
  which _ (too_large f h k) = inr (inr (inr (inl (refl, (f, h, k)))))

abbrev pub IsFree : List FileOf → List ℕ → ℕ → Type 0
IsFree files name bound = (n : ℕ) → n < bound → IsDeletionCase files name n → ⊥

-- ---- a kind

field_from : (k : Kind) → is_field_kind k ≡ true → k ≡ Field
field_from Field h = refl
field_from _ h = absurd (both_ways false refl h)

no_package : (k : Kind) → k ≡ Field → is_package k ≡ false
no_package k e = ap is_package e

module _ (files : List FileOf) (reads : List ReadOf) (are : AreRead files reads) (l : LinkOf) (link : IsLinkOf files l) (name : List ℕ) where
  -- by this reading
  pub cased : (n : ℕ) → IsDeletionCase files name n → IsWhich files reads name n
  cased n h = which files reads name n (subst (λ rs. RefusesDeletion files rs name n) (read_once files h.0 reads h.1 are) h.2)

  names : HoldsNames (names_of_files files reads) l
  names = (link reads are).by.names

  pub refused_1 : ((row : ℕ) → name_text l row ≢ Some name) → IsDeletionRefusal files name refusal.UnknownTarget
  refused_1 none = record { is = (reads, are, by_name 1 (unknown_target unknown)); least = below }
    where
      unknown : IsUnknown files reads name
      unknown s c e =
          let n = names.there s c in
          none n.0 (ap (option_map (λ (z : NameOf). z.text)) n.2 ∙ ap (λ (z : List ℕ). Some z) (n.3 ∙ e))

      below : (n : ℕ) → n < 1 → IsDeletionCase files name n → ⊥
      below n lt h = elim (cased n h) [
        | inl x ↦ (let e = x.0 in omega (arith, lt, e))
        | inr (inl x) ↦ (let e = x.0 in omega (arith, lt, e))
        | inr (inr (inl x)) ↦ (let e = x.0 in omega (arith, lt, e))
        | inr (inr (inr x)) ↦ (let e = late files reads name n x in omega (arith, lt, e))
      ]

  -- ---- a name of the link

  module _ (row : ℕ) (text : name_text l row ≡ Some name) where
    has : (n : NameOf) × (name_at l row ≡ Some n) × (n.text ≡ name)
    has = named_at l row name text

    -- its symbol
    symbol : (s : Symbol) × Contains (names_of_files files reads).symbols s × (joined s.name ≡ name) × (s.kind ≡ has.0.kind)
    symbol =
        let n = has in
        let own = names.declared row n.0 n.1 in
        let s = names.only row (get_or n.0.files 0 0) n.0 n.1 (0, own, get_or_default n.0.files 0 (get_or n.0.files 0 0) 0 own) in
        (s.0, s.1, s.2 ∙ n.2, s.3)

    abbrev kind_told : Option Kind
    kind_told = option_map (λ (n : NameOf). n.kind) (name_at l row)

    told : kind_told ≡ Some has.0.kind
    told = ap (option_map (λ (z : NameOf). z.kind)) has.1

    pub refused_2 : is_field kind_told ≡ false → IsDeletionRefusal files name refusal.KindNotAllowed
    refused_2 h = record { is = (reads, are, by_name 2 (kind_not_allowed symbol.0 symbol.1 symbol.2 other)); least = below }
      where
        other : symbol.0.kind ≢ Field
        other e = both_ways (is_field kind_told) h (ap is_field told ∙ ap is_field_kind (sym symbol.3 ∙ e))

        below : (n : ℕ) → n < 2 → IsDeletionCase files name n → ⊥
        below n lt k = elim (cased n k) [
          | inl x ↦ x.1 symbol.0 symbol.1 symbol.2
          | inr (inl x) ↦ (let e = x.0 in omega (arith, lt, e))
          | inr (inr (inl x)) ↦ (let e = x.0 in omega (arith, lt, e))
          | inr (inr (inr x)) ↦ (let e = late files reads name n x in omega (arith, lt, e))
        ]

    module _ (h : is_field kind_told ≡ true) where
      field : has.0.kind ≡ Field
      field = field_from has.0.kind (sym (ap is_field told) ∙ h)

      file_is : declaring_file l row ≡ Some (get_or has.0.files 0 0)
      file_is = ap (option_and_then own_file) has.1 ∙ cond-false (is_package has.0.kind) None (Some (get_or has.0.files 0 0)) (no_package has.0.kind field)

      token_is : declaring_token l row ≡ Some has.0.token
      token_is = ap (option_and_then own_token) has.1 ∙ cond-false (is_package has.0.kind) None (Some has.0.token) (no_package has.0.kind field)

      pub has_file : declaring_file l row ≡ None → ⊥
      has_file e = none-some (get_or has.0.files 0 0) (sym e ∙ file_is)

      pub has_token : declaring_token l row ≡ None → ⊥
      has_token e = none-some has.0.token (sym e ∙ token_is)

      module _ (clean : HasNoFault (LinkFaults files)) where
        -- no symbol of the name is of another kind
        known : DeletionCase files reads name 1 → ⊥
        known c = elim (which_case files reads name 1 c) [
          | inl x ↦ x.1 symbol.0 symbol.1 symbol.2
          | inr (inl x) ↦ (let e = x.0 in omega (arith, e))
          | inr (inr (inl x)) ↦ (let e = x.0 in omega (arith, e))
          | inr (inr (inr x)) ↦ (let e = late files reads name 1 x in omega (arith, e))
        ]

        allowed : DeletionCase files reads name 2 → ⊥
        allowed c = elim (which_case files reads name 2 c) [
          | inl x ↦ (let e = x.0 in omega (arith, e))
          | inr (inl x) ↦ (
              let s = x.1.0 in
              let n = names.there s x.1.1 in
              let one : row ≡ n.0 = names.once row n.0 has.0 n.1 has.1 n.2 (has.2 ∙ sym x.1.2 ∙ sym n.3) in
              let both : has.0 ≡ n.1 = same_Some has.0 n.1 (sym has.1 ∙ ap (name_at l) one ∙ n.2) in
              x.1.3 (sym n.4 ∙ sym (ap (λ (z : NameOf). z.kind) both) ∙ field))
          | inr (inr (inl x)) ↦ (let e = x.0 in omega (arith, e))
          | inr (inr (inr x)) ↦ (let e = late files reads name 2 x in omega (arith, e))
        ]

        target : (t : Target) × IsField files reads name t
        target = fields_are_there files reads name are known allowed

        pub target_at : (file token : ℕ) → declaring_file l row ≡ Some file → declaring_token l row ≡ Some token → (t : Target) × IsField files reads name t × (t.token ≡ at file token)
        target_at file token f k =
            let t = target in
            let file_same : get_or has.0.files 0 0 ≡ file = same_Some (get_or has.0.files 0 0) file (sym file_is ∙ f) in
            let token_same : has.0.token ≡ token = same_Some has.0.token token (sym token_is ∙ k) in
            let place = (link reads are).by.places t.0.aim t.1.named.within (apart t.0.aim.kind t.1.kind) row has.0 has.1 (has.2 ∙ sym t.1.named.name_is) in
            let ends : place_of t.0.aim ≡ t.0.token = ap (place_from (at t.0.aim.file 0)) t.1.named.path ∙ place_last (at t.0.aim.file 0) t.0.above t.0.token in
            (t.0, t.1, sym ends ∙ sym place ∙ ap (λ x. at x has.0.token) file_same ∙ ap (at file) token_same)
          where
            apart : (k : Kind) → k ≡ Field → k ≢ Package
            apart k e q = differ (sym e ∙ q)
              where
                differ : Field ≡ Package → ⊥
                differ z = cc

        pub free_2 : IsFree files name 10
        free_2 n lt k = elim (cased n k) [
          | inl x ↦ x.1 symbol.0 symbol.1 symbol.2
          | inr (inl x) ↦ allowed (kind_not_allowed x.1.0 x.1.1 x.1.2 x.1.3)
          | inr (inr (inl x)) ↦ (let e = x.0 in omega (arith, lt, e))
          | inr (inr (inr x)) ↦ (let e = late files reads name n x in omega (arith, lt, e))
        ]
