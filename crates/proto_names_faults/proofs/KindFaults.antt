-- What is wrong with a reference, by the kind of what it resolves to.
use Rattle.std.proofs.Common.{◌≡◌, ◌↔◌, ◌⊎◌, ℕ, ◌+◌, ◌<◌, List, length, get_or, take, Option, Some, None, option_map, refl, sym, ◌∙◌, ap, subst, inl, inr, arith, take_all, ◌≤◌}
use Rattle.proto_base.proofs.Common.{kind_number, none-some, same_Some}
use Rattle.proto_names_rules.specs.declared.kind.Kind.{Kind}
use Rattle.proto_names_rules.specs.declared.kind.Kind.TheVariants.{Entry, Enum}
use Rattle.proto_names_rules.specs.declared.wants.Wants.{Wants}
use Rattle.proto_names_rules.specs.declared.wants.Wants.TheVariants as wants
use Rattle.proto_names_rules.proofs.Common.{Fault, Reference, Workspace, at, fault}
use Rattle.proto_names_outline.specs.declared.listing.Use.{Use}
use Rattle.proto_names_table.specs.Naming.{ReferenceFlaw, of_entry, unresolved, wrong_kind}
use Rattle.proto_names.specs.Referring.{first_token_of_use}
use Rattle.proto_names_faults.specs.Common.{AreAdded, Flaw, IsKindOf, IsListedFault, enum_fault, kind_fault, type_fault}
use Rattle.proto_names_faults.proofs.Added.{IsNew, added_as, added_both, taken_one}

module _ (w : Workspace) (r : Reference) where
  to_number : (o : Option Kind) → IsKindOf w r o → (n : ℕ) → ReferenceFlaw w r n → option_map kind_number (kind_fault o r.wants) ≡ Some n
  to_number None h n (unresolved e) = refl
  to_number None h n (wrong_kind s c m wanted e) = absurd (none-some s.name (sym h ∙ m))
  to_number None h n (of_entry s c m e) = absurd (none-some s.name (sym h ∙ m))
  to_number (Some kind) h n (unresolved e) = absurd (none-some h.0.0.name (sym e ∙ h.0.2))
  to_number (Some kind) h n (wrong_kind s c m wanted e) =
      ap (λ (k : Kind). option_map kind_number (type_fault k r.wants)) (sym (h.1 s c m) ∙ e)
      ∙ ap (λ what. option_map kind_number (enum_fault what)) wanted
  to_number (Some kind) h n (of_entry s c m e) = ap (λ (k : Kind). option_map kind_number (type_fault k r.wants)) (sym (h.1 s c m) ∙ e)

  flawed_kind : (kind : Kind) (what : Wants) (n : ℕ) → option_map kind_number (type_fault kind what) ≡ Some n → ((kind ≡ Entry) × (n ≡ 16)) ⊎ ((kind ≡ Enum) × (what ≡ wants.Message) × (n ≡ 15))
  flawed_kind Entry what n h = inl (refl, sym (same_Some 16 n h))
  flawed_kind Enum wants.Type n h = absurd (none-some n h)
  flawed_kind Enum wants.Message n h = inr (refl, refl, sym (same_Some 15 n h))
  flawed_kind Enum wants.Extension n h = absurd (none-some n h)
  flawed_kind _ what n h = absurd (none-some n h)

  from_number : (o : Option Kind) → IsKindOf w r o → (n : ℕ) → option_map kind_number (kind_fault o r.wants) ≡ Some n → ReferenceFlaw w r n
  from_number None h n e = subst (ReferenceFlaw w r) (same_Some 14 n e) (unresolved h)
  from_number (Some kind) h n e = elim (flawed_kind kind r.wants n e) [
    | inl k ↦ subst (ReferenceFlaw w r) (sym k.1) (of_entry h.0.0 h.0.1 h.0.2 (h.1 h.0.0 h.0.1 h.0.2 ∙ k.0))
    | inr k ↦ subst (ReferenceFlaw w r) (sym k.2) (wrong_kind h.0.0 h.0.1 h.0.2 k.1 (h.1 h.0.0 h.0.1 h.0.2 ∙ k.0))
  ]

module _ (w : Workspace) (reference : Use → Reference) (file : ℕ) where
  -- a fault of this reference
  abbrev IsOne : Use → Fault → Type 0
  IsOne u f = (n : ℕ) × ReferenceFlaw w (reference u) n × (f ≡ fault (at file (first_token_of_use u)) n)

  one_added : (u : Use) (o : Option Kind) → IsKindOf w (reference u) o → (token : ℕ) → token ≡ first_token_of_use u → (f : Fault) → IsNew file token (kind_fault o (reference u).wants) f ↔ IsOne u f
  one_added u o h token e f = (
    λ n. (n.0, from_number w (reference u) o h n.0 n.1, n.2 ∙ ap (λ (t : ℕ). fault (at file t) n.0) e),
    λ n. (n.0, to_number w (reference u) o h n.0 n.1, n.2 ∙ ap (λ (t : ℕ). fault (at file t) n.0) (sym e)),
  )

  one_more : (uses : List Use) (i : ℕ) (u : Use) → i < length uses → u ≡ get_or uses i u → (f : Fault)
      → (IsListedFault w reference file (take i uses) f ⊎ IsOne u f) ↔ IsListedFault w reference file (take (i + 1) uses) f
  one_more uses i u l is f = (forth, back)
    where
      forth : IsListedFault w reference file (take i uses) f ⊎ IsOne u f → IsListedFault w reference file (take (i + 1) uses) f
      forth (inl h) = record { one = h.one; number = h.number; there = (taken_one uses i u h.one l is).1 (inl h.there); flaw = h.flaw; is = h.is }
      forth (inr n) = record { one = u; number = n.0; there = (taken_one uses i u u l is).1 (inr refl); flaw = n.1; is = n.2 }

      back : IsListedFault w reference file (take (i + 1) uses) f → IsListedFault w reference file (take i uses) f ⊎ IsOne u f
      back h = elim ((taken_one uses i u h.one l is).0 h.there) [
        | inl c ↦ inl (record { one = h.one; number = h.number; there = c; flaw = h.flaw; is = h.is })
        | inr e ↦ inr (h.number, subst (λ (v : Use). ReferenceFlaw w (reference v) h.number) (sym e) h.flaw, h.is ∙ ap (λ (v : Use). fault (at file (first_token_of_use v)) h.number) (sym e))
      ]

  -- the flaws of one reference more
  pub use_turn : (uses : List Use) (i : ℕ) (u : Use) (old found next : List Flaw) → i < length uses → u ≡ get_or uses i u → (o : Option Kind) → IsKindOf w (reference u) o → (token : ℕ) → token ≡ first_token_of_use u
      → AreAdded (IsNew file token (kind_fault o (reference u).wants)) found next → AreAdded (IsListedFault w reference file (take i uses)) old found
      → AreAdded (IsListedFault w reference file (take (i + 1) uses)) old next
  use_turn uses i u old found next l is o h token e new before =
      added_both (IsListedFault w reference file (take i uses)) (IsOne u) (IsListedFault w reference file (take (i + 1) uses)) old found next (one_more uses i u l is) before
      (added_as (IsNew file token (kind_fault o (reference u).wants)) (IsOne u) found next (one_added u o h token e) new)

  pub no_use : (f : Fault) (uses : List Use) → IsListedFault w reference file (take 0 uses) f → ⊥
  no_use f uses h = let c = h.there in omega (arith, c.1)

  pub all_uses : (uses : List Use) (i : ℕ) (old found : List Flaw) → length uses ≤ i → AreAdded (IsListedFault w reference file (take i uses)) old found → AreAdded (IsListedFault w reference file uses) old found
  all_uses uses i old found l h = subst (λ (us : List Use). AreAdded (IsListedFault w reference file us) old found) (take_all i uses l) h
