-- Cases 10 and 16 of a deletion, and where the field is.
use Rattle.std.proofs.Common.{◌≡◌, ℕ, ◌<◌, true, false, List, length, sym, ap, subst, ◌∙◌, inl, inr, arith}
use Rattle.std.proofs.lemmas.Bool.{both_ways}
use Rattle.proto_tree.specs.declared.context.Context.TheVariants as context
use Rattle.proto_files.proofs.Common.{HasNoFault, ReadOf, AreRead, read_at, FileOf, file_at, read_once}
use Rattle.proto_edit_entries.specs.declared.refusal.Refusal.TheVariants as refusal
use Rattle.proto_names_imports.specs.Links.{LinkFaults}
use Rattle.proto_names_rules.specs.Grown.{At, at}
use Rattle.proto_edit_captures.proofs.Common.{Target, tokens_are_inside}
use Rattle.proto_edit_statement_laws.proofs.ChangesCommon.{FieldAt, FieldsAreOne, splice_of_deletion, IsTooLong}
use Rattle.proto_edit_statement_laws.proofs.NamesCommon.{IsAlone, last_of_oneof, fields_are_one}
use Rattle.proto_edit_statements.specs.Common.{alone_in, IsDeletionCase, IsDeletionRefusal, IsFieldNamed, RefusesDeletion, by_name, too_large, IsFieldToken, FieldName}
use Rattle.proto_edit_statements.proofs.AloneTrees.{HoldsAlone, alone_holds, holds_alone}
use Rattle.proto_edit_statements.proofs.FieldNamed.{IsFree, IsWhich, late, which}

module _ (files : List FileOf) (reads : List ReadOf) (are : AreRead files reads) (name : List ℕ) (field : FieldName) (is : IsFieldToken files reads name field) where
  -- its file is there
  pub file_there : field.file < length files
  file_there =
      let t = is.0 in
      let inside = (tokens_are_inside files reads are t.token (inl (t.aim, is.1.named.within, (t.above, inl is.1.named.path)))).0 in
      let e = ap (λ (z : At). z.file) is.2 in
      omega (arith, inside, e)

  pub cased : (n : ℕ) → IsDeletionCase files name n → IsWhich files reads name n
  cased n h = which files reads name n (subst (λ rs. RefusesDeletion files rs name n) (read_once files h.0 reads h.1 are) h.2)

  alone_at : HoldsAlone field.token (read_at reads field.file).tree → IsAlone reads (at field.file field.token)
  alone_at x = record { h = x.h; b = x.b; block = x.block; oneof = x.oneof; only = x.only }

  holds_at : IsAlone reads (at field.file field.token) → HoldsAlone field.token (read_at reads field.file).tree
  holds_at x = record { h = x.h; b = x.b; block = x.block; oneof = x.oneof; only = x.only }

  pub refused_10 : IsFree files name 10 → alone_in field.token (read_at reads field.file).tree ≡ true → IsDeletionRefusal files name refusal.LastOfOneof
  refused_10 free h = record { is = (reads, are, by_name 10 (last_of_oneof is.0 is.1 (subst (IsAlone reads) (sym is.2) (alone_at (alone_holds field.token (read_at reads field.file).tree h))))); least = free }

  pub free_10 : HasNoFault (LinkFaults files) → IsFree files name 10 → alone_in field.token (read_at reads field.file).tree ≡ false → IsFree files name 11
  free_10 clean free h n l k = elim (cased n k) [
    | inl x ↦ (let e = x.0 in free n (omega (arith, e)) k)
    | inr (inl x) ↦ (let e = x.0 in free n (omega (arith, e)) k)
    | inr (inr (inl x)) ↦ (
        let same : x.1.0 ≡ is.0 = fields_are_one files reads name x.1.0 is.0 are clean x.1.1 is.1 in
        let here : x.1.0.token ≡ at field.file field.token = ap (λ (z : Target). z.token) same ∙ is.2 in
        let holds = holds_at (subst (IsAlone reads) here x.1.2) in
        both_ways (alone_in field.token (read_at reads field.file).tree) h (holds_alone field.token context.Start (read_at reads field.file).tree (are.trees field.file file_there).spells.well_formed holds))
    | inr (inr (inr x)) ↦ (let e = late files reads name n x in omega (arith, l, e))
  ]

  -- ---- case 16

  pub refused_16 : IsFree files name 11 → (f : FieldAt) → IsFieldNamed files reads name f → IsTooLong (file_at files f.file) (splice_of_deletion files reads f) → IsDeletionRefusal files name refusal.TooLarge
  refused_16 free f named h = record { is = (reads, are, too_large f named h); least = below }
    where
      below : (n : ℕ) → n < 16 → IsDeletionCase files name n → ⊥
      below n l k = elim (cased n k) [
        | inl x ↦ (let e = x.0 in free n (omega (arith, e)) k)
        | inr (inl x) ↦ (let e = x.0 in free n (omega (arith, e)) k)
        | inr (inr (inl x)) ↦ (let e = x.0 in free n (omega (arith, e)) k)
        | inr (inr (inr x)) ↦ (let e = late files reads name n x in omega (arith, l, e))
      ]

  pub free_16 : FieldsAreOne → HasNoFault (LinkFaults files) → IsFree files name 11 → (f : FieldAt) → IsFieldNamed files reads name f → (IsTooLong (file_at files f.file) (splice_of_deletion files reads f) → ⊥) → IsFree files name 17
  free_16 law clean free f named none n l k = elim (cased n k) [
    | inl x ↦ (let e = x.0 in free n (omega (arith, e)) k)
    | inr (inl x) ↦ (let e = x.0 in free n (omega (arith, e)) k)
    | inr (inr (inl x)) ↦ (let e = x.0 in free n (omega (arith, e)) k)
    | inr (inr (inr (inl x))) ↦ (
        let g = x.1.0 in
        let same = fields_are_one files reads name x.1.1.t named.t are clean x.1.1.field named.field in
        let place : at g.file g.name ≡ at f.file f.name = sym x.1.1.token ∙ ap (λ (z : Target). z.token) same ∙ named.token in
        let one : g ≡ f = law files reads g f are x.1.1.stands named.stands (ap (λ (z : At). z.file) place) (ap (λ (z : At). z.token) place) in
        none (subst (λ (z : FieldAt). IsTooLong (file_at files z.file) (splice_of_deletion files reads z)) one x.1.2))
    | inr (inr (inr (inr (inl x)))) ↦ (let e = x.0 in omega (arith, l, e))
    | inr (inr (inr (inr (inr x)))) ↦ (let e = x.0 in omega (arith, l, e))
  ]
