-- What is wrong with imports, one import more and one file more.
use Rattle.std.proofs.Common.{◌≡◌, ◌↔◌, ◌⊎◌, ℕ, ◌+◌, ◌<◌, Bool, true, false, List, [], length, get_or, take, None, string_bytes, sym, subst, inl, inr, arith, bytes_eq, take_all}
use Rattle.std.specs.List.{list_any}
use Rattle.proto_base.proofs.Common.{option_map_or}
use Rattle.proto_base.specs.declared.fault.FaultKind.TheVariants.{DoubleImport, ImportCycle, UnknownImport}
use Rattle.proto_names_rules.proofs.Common.{Fault, ImportFault, file_with_path, imports_of}
use Rattle.proto_names_imports.specs.Common.{PathFault, all_asked}
use Rattle.proto_names_imports.specs.declared.import.WrittenImport.{WrittenImport}
use Rattle.proto_names_faults.specs.Common.{AreAdded, AreFlawsOf, Flaw, IsCycle, IsCycleBefore, IsDouble, IsFlawOf, IsImportBefore, IsImportIn, IsUnknown, MarksCycles, kind_if}
use Rattle.proto_names_faults.proofs.Added.{IsNew, added_as, added_both, flaws_as, flaws_more, new_if}
use Rattle.proto_names_faults.proofs.CycleFaults.{cycle_file, cycle_more, cycle_new, import_cases}
use Rattle.proto_names_faults.proofs.PathFaults.{no_files, no_imports, path_file, path_more}

-- ---- two things that are said, each with more

module _ {A U D C Y : Type 0} where
  from_first : A ⊎ (U ⊎ D) → (A ⊎ C) ⊎ (U ⊎ (D ⊎ Y))
  from_first (inl a) = inl (inl a)
  from_first (inr (inl u)) = inr (inl u)
  from_first (inr (inr d)) = inr (inr (inl d))

  from_second : C ⊎ Y → (A ⊎ C) ⊎ (U ⊎ (D ⊎ Y))
  from_second (inl c) = inl (inr c)
  from_second (inr y) = inr (inr (inr y))

module _ {A U D E C Y F : Type 0} where
  more_forth : (A ⊎ (U ⊎ D) → E) → (C ⊎ Y → F) → (A ⊎ C) ⊎ (U ⊎ (D ⊎ Y)) → E ⊎ F
  more_forth p q (inl (inl a)) = inl (p (inl a))
  more_forth p q (inl (inr c)) = inr (q (inl c))
  more_forth p q (inr (inl u)) = inl (p (inr (inl u)))
  more_forth p q (inr (inr (inl d))) = inl (p (inr (inr d)))
  more_forth p q (inr (inr (inr y))) = inr (q (inr y))

  more_back : (E → A ⊎ (U ⊎ D)) → (F → C ⊎ Y) → E ⊎ F → (A ⊎ C) ⊎ (U ⊎ (D ⊎ Y))
  more_back p q (inl e) = from_first (p e)
  more_back p q (inr f) = from_second (q f)

module _ {A B C D : Type 0} where
  from_one : A ⊎ B → (A ⊎ C) ⊎ (B ⊎ D)
  from_one (inl a) = inl (inl a)
  from_one (inr b) = inr (inl b)

  from_other : C ⊎ D → (A ⊎ C) ⊎ (B ⊎ D)
  from_other (inl c) = inl (inr c)
  from_other (inr d) = inr (inr d)

module _ {A B E C D F : Type 0} where
  both_forth : (A ⊎ B → E) → (C ⊎ D → F) → (A ⊎ C) ⊎ (B ⊎ D) → E ⊎ F
  both_forth p q (inl (inl a)) = inl (p (inl a))
  both_forth p q (inl (inr c)) = inr (q (inl c))
  both_forth p q (inr (inl b)) = inl (p (inr b))
  both_forth p q (inr (inr d)) = inr (q (inr d))

  both_back : (E → A ⊎ B) → (F → C ⊎ D) → E ⊎ F → (A ⊎ C) ⊎ (B ⊎ D)
  both_back p q (inl e) = from_one (p e)
  both_back p q (inr f) = from_other (q f)

-- ---- one import

module _ (paths : List (List ℕ)) (marks : List (List Bool)) (file : ℕ) where
  -- the flaws of one import are added one by one
  pub import_added : (w : WrittenImport) (is_unknown is_double is_cycle : Bool) → ((is_unknown ≡ true) ↔ (file_with_path paths (string_bytes w.path) ≡ None))
      → is_cycle ≡ option_map_or (λ to. get_or (get_or marks to []) file false) (file_with_path paths (string_bytes w.path)) false → (old one two next : List Flaw)
      → AreAdded (IsNew file w.token (kind_if is_unknown UnknownImport)) old one → AreAdded (IsNew file w.token (kind_if is_double DoubleImport)) one two → AreAdded (IsNew file w.token (kind_if is_cycle ImportCycle)) two next
      → AreAdded (IsFlawOf paths marks file w is_double) old next
  import_added w is_unknown is_double is_cycle u c old one two next first second third =
      added_both (IsUnknown paths file w) (λ f. IsDouble file w is_double f ⊎ IsCycle paths marks file w f) (IsFlawOf paths marks file w is_double) old one next (λ f. (λ h. h, λ h. h))
      (added_as (IsNew file w.token (kind_if is_unknown UnknownImport)) (IsUnknown paths file w) old one as_unknown first)
      (added_both (IsDouble file w is_double) (IsCycle paths marks file w) (λ f. IsDouble file w is_double f ⊎ IsCycle paths marks file w f) one two next (λ f. (λ h. h, λ h. h))
      (added_as (IsNew file w.token (kind_if is_double DoubleImport)) (IsDouble file w is_double) one two (new_if file w.token is_double DoubleImport) second)
      (added_as (IsNew file w.token (kind_if is_cycle ImportCycle)) (IsCycle paths marks file w) two next (cycle_new paths marks file w is_cycle c) third))
    where
      as_unknown : (f : Fault) → IsNew file w.token (kind_if is_unknown UnknownImport) f ↔ IsUnknown paths file w f
      as_unknown f = let n = new_if file w.token is_unknown UnknownImport f in (λ h. (let k = n.0 h in (u.0 k.0, k.1)), λ h. n.1 (u.1 h.0, h.1))

  -- the flaws of one import more
  pub import_turn : (ws : List WrittenImport) (i : ℕ) (w : WrittenImport) → i < length ws → w ≡ get_or ws i w → (is_double : Bool) → is_double ≡ list_any (λ v. bytes_eq (string_bytes v.path) (string_bytes w.path)) (take i ws)
      → (old found next : List Flaw) → AreAdded (IsImportIn paths marks file (take i ws)) old found → AreAdded (IsFlawOf paths marks file w is_double) found next → AreAdded (IsImportIn paths marks file (take (i + 1) ws)) old next
  import_turn ws i w l is is_double d old found next first second = added_both (IsImportIn paths marks file (take i ws)) (IsFlawOf paths marks file w is_double) (IsImportIn paths marks file (take (i + 1) ws)) old found next more first second
    where
      more : (f : Fault) → (IsImportIn paths marks file (take i ws) f ⊎ IsFlawOf paths marks file w is_double f) ↔ IsImportIn paths marks file (take (i + 1) ws) f
      more f =
          let p = path_more paths file ws i w l is is_double d f in
          let c = cycle_more paths marks file ws i w l is f in
          (more_forth p.0 c.0, more_back p.1 c.1)

  pub no_import_yet : (ws : List WrittenImport) (f : Fault) → IsImportIn paths marks file (take 0 ws) f → ⊥
  no_import_yet ws f (inl p) = no_imports paths file ws f p
  no_import_yet ws f (inr c) = let d = c.1 in omega (arith, d.1)

-- ---- one file

module _ (paths : List (List ℕ)) (marks : List (List Bool)) (fs : List (List WrittenImport)) where
  -- the flaws of one file more
  pub file_turn : (k : ℕ) → k < length fs → (old next : List Flaw) → AreFlawsOf (IsImportBefore paths marks fs k) old → AreAdded (IsImportIn paths marks k (get_or fs k [])) old next → AreFlawsOf (IsImportBefore paths marks fs (k + 1)) next
  file_turn k l old next before added = flaws_more (IsImportBefore paths marks fs k) (IsImportIn paths marks k (get_or fs k [])) (IsImportBefore paths marks fs (k + 1)) old next more before added
    where
      more : (f : Fault) → (IsImportBefore paths marks fs k f ⊎ IsImportIn paths marks k (get_or fs k []) f) ↔ IsImportBefore paths marks fs (k + 1) f
      more f =
          let p = path_file paths fs k l f in
          let c = cycle_file paths marks fs k f in
          (both_forth p.0 c.0, both_back p.1 c.1)

  pub no_file_yet : (f : Fault) → IsImportBefore paths marks fs 0 f → ⊥
  no_file_yet f (inl p) = no_files paths fs f p
  no_file_yet f (inr c) = let l = c.1 in omega (arith, l)

  -- the flaws of all files
  pub all_files : MarksCycles (imports_of paths (all_asked 0 fs)) marks → (k : ℕ) → k ≡ length fs → (ws : List Flaw) → AreFlawsOf (IsImportBefore paths marks fs k) ws → AreFlawsOf (ImportFault paths (all_asked 0 fs)) ws
  all_files exact k e ws h = flaws_as (IsImportBefore paths marks fs (length fs)) (ImportFault paths (all_asked 0 fs)) ws whole (subst (λ (n : ℕ). AreFlawsOf (IsImportBefore paths marks fs n) ws) e h)
    where
      all : take (length fs) fs ≡ fs
      all = take_all (length fs) fs (omega arith)

      path_forth : (f : Fault) → IsImportBefore paths marks fs (length fs) f → PathFault paths (all_asked 0 fs) f ⊎ IsCycleBefore paths marks fs (length fs) f
      path_forth f (inl p) = inl (subst (λ (xs : List (List WrittenImport)). PathFault paths (all_asked 0 xs) f) all p)
      path_forth f (inr c) = inr c

      path_back : (f : Fault) → PathFault paths (all_asked 0 fs) f ⊎ IsCycleBefore paths marks fs (length fs) f → IsImportBefore paths marks fs (length fs) f
      path_back f (inl p) = inl (subst (λ (xs : List (List WrittenImport)). PathFault paths (all_asked 0 xs) f) (sym all) p)
      path_back f (inr c) = inr c

      whole : (f : Fault) → IsImportBefore paths marks fs (length fs) f ↔ ImportFault paths (all_asked 0 fs) f
      whole f = let i = import_cases paths marks fs exact f in (λ h. i.0 (path_forth f h), λ h. path_back f (i.1 h))
