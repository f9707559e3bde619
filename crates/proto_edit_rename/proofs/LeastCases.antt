-- The cases of a rename by their numbers.
use Rattle.std.proofs.Common.{◌≡◌, ◌⊎◌, ℕ, ◌+◌, ◌<◌, false, true, List, length, refl, subst, inl, inr, arith, Contains}
use Rattle.std.proofs.lemmas.Bool.{cases_order}
use Rattle.proto_text.specs.Words.{is_run}
use Rattle.proto_files.proofs.Common.{ReadOf, FileOf}
use Rattle.proto_names_rules.proofs.Common.{Collides, At, joined, Symbol, Used}
use Rattle.proto_names_imports.specs.Links.{names_of_files, text_of}
use Rattle.proto_edit_rules.specs.Rename.{IsValueWord, NamesOptions, fixed_name, option_value}
use Rattle.proto_edit_rename_laws.proofs.Common.{Captures, JsonNameClashes, IsUnknown, RenameCase, ReservesWord, is_keyword_of, unknown_target, kind_not_allowed, not_an_identifier, keyword_name, same_name, collision, captured, name_reserved, json_clash, too_large, IsRewordedTooLong, Target, IsNamed, may_rename, name_map, renamed_words}
use Rattle.proto_edit_rename.specs.Common.{IsFreeBefore, IsLeastRenameCase, IsRenameCase}

module _ (files : List FileOf) (name to : List ℕ) where
  -- the numbers of the cases past 9
  abbrev IsLate : ℕ → Type 0
  IsLate k = (k ≡ 16) ⊎ ((k ≡ 19) ⊎ (k ≡ 20))

  -- none is numbered 0, none 10 to 15, and none 17 or 18
  few : (reads : List ReadOf) (k : ℕ) → RenameCase files reads name to k → (0 < k) × ((k < 10) ⊎ IsLate k)
  few reads _ (unknown_target h) = (omega arith, inl (omega arith))
  few reads _ (kind_not_allowed s cs e h) = (omega arith, inl (omega arith))
  few reads _ (not_an_identifier h) = (omega arith, inl (omega arith))
  few reads _ (keyword_name t n h) = (omega arith, inl (omega arith))
  few reads _ (same_name t n h) = (omega arith, inl (omega arith))
  few reads _ (collision t n h) = (omega arith, inl (omega arith))
  few reads _ (captured t u n h) = (omega arith, inl (omega arith))
  few reads _ (name_reserved t n h) = (omega arith, inl (omega arith))
  few reads _ (json_clash t n h) = (omega arith, inl (omega arith))
  few reads _ (too_large t k n l h) = (omega arith, inr (inl refl))
  few reads _ (option_value t a n h) = (omega arith, inr (inr (inl refl)))
  few reads _ (fixed_name t n h) = (omega arith, inr (inr (inr refl)))

  pub first_free : IsFreeBefore files name to 1
  first_free k l h = let p = few h.0 k h.2 in let z = p.0 in absurd (omega (arith, l, z))

  pub next_free : (n m : ℕ) → m ≡ n + 1 → IsFreeBefore files name to n → (IsRenameCase files name to n → ⊥) → IsFreeBefore files name to m
  next_free n m e free none k l h = elim (cases_order k n) [
    | inl same ↦ none (subst (IsRenameCase files name to) same h)
    | inr (inl below) ↦ free k below h
    | inr (inr above) ↦ absurd (omega (arith, e, l, above))
  ]

  pub least : (n : ℕ) → IsFreeBefore files name to n → IsRenameCase files name to n → IsLeastRenameCase files name to n
  least n free h = record { is = h; least = free }

  -- no case is numbered 10 to 15
  pub late_free : IsFreeBefore files name to 10 → IsFreeBefore files name to 16
  late_free free k l h = elim (few h.0 k h.2).1 [
    | inl below ↦ free k below h
    | inr (inl e) ↦ absurd (omega (arith, l, e))
    | inr (inr (inl e)) ↦ absurd (omega (arith, l, e))
    | inr (inr (inr e)) ↦ absurd (omega (arith, l, e))
  ]

  -- and none 17 or 18
  pub option_free : IsFreeBefore files name to 16 → (IsRenameCase files name to 16 → ⊥) → IsFreeBefore files name to 19
  option_free free none k l h = elim (few h.0 k h.2).1 [
    | inl below ↦ free k (omega (arith, below)) h
    | inr (inl e) ↦ none (subst (IsRenameCase files name to) e h)
    | inr (inr (inl e)) ↦ absurd (omega (arith, l, e))
    | inr (inr (inr e)) ↦ absurd (omega (arith, l, e))
  ]

  pub all_free : IsFreeBefore files name to 20 → (IsRenameCase files name to 20 → ⊥) → (k : ℕ) → IsRenameCase files name to k → ⊥
  all_free free none k h = elim (few h.0 k h.2).1 [
    | inl below ↦ free k (omega (arith, below)) h
    | inr (inl e) ↦ free k (omega (arith, e)) h
    | inr (inr (inl e)) ↦ free k (omega (arith, e)) h
    | inr (inr (inr e)) ↦ none (subst (IsRenameCase files name to) e h)
  ]

  module _ (reads : List ReadOf) where
    pub from_1 : RenameCase files reads name to 1 → IsUnknown files reads name
    from_1 (unknown_target h) = h

    pub from_2 : RenameCase files reads name to 2 → (s : Symbol) × Contains (names_of_files files reads).symbols s × (joined s.name ≡ name) × (may_rename s.kind ≡ false)
    from_2 (kind_not_allowed s cs e h) = (s, cs, e, h)

    pub from_3 : RenameCase files reads name to 3 → is_run to ≡ false
    from_3 (not_an_identifier h) = h

    pub from_4 : RenameCase files reads name to 4 → (t : Target) × IsNamed files reads name t × (is_keyword_of t.aim.kind to ≡ true)
    from_4 (keyword_name t n h) = (t, n, h)

    pub from_5 : RenameCase files reads name to 5 → (t : Target) × IsNamed files reads name t × (text_of files reads t.token ≡ to)
    from_5 (same_name t n h) = (t, n, h)

    pub from_6 : RenameCase files reads name to 6 → (t : Target) × IsNamed files reads name t × Collides (name_map files reads t to) (names_of_files files reads)
    from_6 (collision t n h) = (t, n, h)

    pub from_7 : RenameCase files reads name to 7 → (t : Target) × (u : Used At) × IsNamed files reads name t × Captures files reads t to u
    from_7 (captured t u n h) = (t, u, n, h)

    pub from_8 : RenameCase files reads name to 8 → (t : Target) × IsNamed files reads name t × ReservesWord files reads t.token to
    from_8 (name_reserved t n h) = (t, n, h)

    pub from_9 : RenameCase files reads name to 9 → (t : Target) × IsNamed files reads name t × JsonNameClashes files reads t.token to
    from_9 (json_clash t n h) = (t, n, h)

    pub from_16 : RenameCase files reads name to 16 → (t : Target) × (k : ℕ) × IsNamed files reads name t × (k < length files) × IsRewordedTooLong (renamed_words files reads t to) files reads k
    from_16 (too_large t k n l h) = (t, k, n, l, h)

    pub from_19 : RenameCase files reads name to 19 → (t : Target) × (a : At) × IsNamed files reads name t × IsValueWord files reads t to a
    from_19 (option_value t a n h) = (t, a, n, h)

    pub from_20 : RenameCase files reads name to 20 → (t : Target) × IsNamed files reads name t × NamesOptions files reads t to
    from_20 (fixed_name t n h) = (t, n, h)
