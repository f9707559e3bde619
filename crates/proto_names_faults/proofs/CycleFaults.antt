-- Imports that lead back to their files.
use Rattle.std.proofs.Common.{◌≡◌, ◌↔◌, ◌⊎◌, ℕ, ◌+◌, ◌<◌, Bool, true, false, List, [], length, get_or, take, map, string_bytes, Option, Some, None, refl, sym, ap, subst, ◌∙◌, inl, inr, arith, Contains, true≢false}
use Rattle.proto_base.proofs.Common.{cases_eq, contains_map, from_map, option_map_or}
use Rattle.proto_base.specs.declared.fault.FaultKind.TheVariants.{ImportCycle}
use Rattle.proto_names_rules.proofs.Common.{AskedImport, Fault, Import, ImportFault, IsAcyclic, Leads, cycle, double as double_import, fault, file_with_path, imports_of, onward, stop, unknown as unknown_import}
use Rattle.proto_names_imports.specs.Common.{IsMarked, PathFault, Walks, all_asked, asked_by, double, goes, stays, unknown}
use Rattle.proto_names_imports.specs.declared.import.WrittenImport.{WrittenImport}
use Rattle.proto_names_imports.proofs.ImportGraph.{IsGraph, import_contained}
use Rattle.proto_names_faults.specs.Common.{IsCycle, IsCycleBefore, IsCycleIn, MarksCycles, kind_if}
use Rattle.proto_names_faults.proofs.Added.{IsNew, new_if, taken_one}
use Rattle.proto_names_faults.proofs.PathFaults.{asked_in, asked_of}

-- ---- marks

walk_leads : (next : List (List ℕ)) (imports : List Import) → IsGraph next imports → {f g : ℕ} → Walks next f g → Leads imports f g
walk_leads next imports graph stays = stop
walk_leads next imports graph {f} {g} (goes h c w) =
    let i = (graph f h).0 c in
    onward i.0 i.1 i.2 (subst (λ (k : ℕ). Leads imports k g) (sym i.3) (walk_leads next imports graph w))

leads_walk : (next : List (List ℕ)) (imports : List Import) → IsGraph next imports → {f g : ℕ} → Leads imports f g → Walks next f g
leads_walk next imports graph stop = stays
leads_walk next imports graph {f} (onward i c e l) = goes i.to ((graph f i.to).1 (i, c, e, refl)) (leads_walk next imports graph l)

-- what is reached along the lists of imports is what they lead to
pub reached_cycles : (next : List (List ℕ)) (imports : List Import) (marks : List (List Bool)) → IsGraph next imports → ((i : Import) → Contains imports i → i.to < length next)
    → ((from to : ℕ) → from < length next → IsMarked (get_or marks from []) to ↔ Walks next from to) → MarksCycles imports marks
reached_cycles next imports marks graph within exact i c =
    let r = exact i.to i.from (within i c) in
    (λ m. walk_leads next imports graph (r.0 m), λ l. r.1 (leads_walk next imports graph l))

unmarked : (k n : ℕ) → IsMarked (get_or {A = List Bool} [] k []) n → ⊥
unmarked k n m = true≢false (sym m)

-- where nothing leads back, no marks are needed
pub no_cycles : (imports : List Import) (marks : List (List Bool)) → marks ≡ [] → IsAcyclic imports → MarksCycles imports marks
no_cycles imports marks e acyclic i c = (λ m. absurd (unmarked i.to i.from (subst (λ (ms : List (List Bool)). IsMarked (get_or ms i.to []) i.from) e m)), λ l. absurd (acyclic i c l))

-- ---- one import more

marked_from : (marks : List (List Bool)) (file : ℕ) (o : Option ℕ) → option_map_or (λ to. get_or (get_or marks to []) file false) o false ≡ true → (to : ℕ) × (o ≡ Some to) × IsMarked (get_or marks to []) file
marked_from marks file None h = absurd (true≢false (sym h))
marked_from marks file (Some to) h = (to, refl, h)

module _ (paths : List (List ℕ)) (marks : List (List Bool)) (file : ℕ) where
  pub cycle_more : (ws : List WrittenImport) (i : ℕ) (w : WrittenImport) → i < length ws → w ≡ get_or ws i w → (f : Fault)
      → (IsCycleIn paths marks file (take i ws) f ⊎ IsCycle paths marks file w f) ↔ IsCycleIn paths marks file (take (i + 1) ws) f
  cycle_more ws i w l is f = (
    λ h. elim h [
      | inl c ↦ (c.0, (taken_one ws i w c.0 l is).1 (inl c.1), c.2)
      | inr o ↦ (w, (taken_one ws i w w l is).1 (inr refl), o)
    ],
    λ c. elim ((taken_one ws i w c.0 l is).0 c.1) [
      | inl d ↦ inl (c.0, d, c.2)
      | inr e ↦ inr (subst (λ (v : WrittenImport). IsCycle paths marks file v f) (sym e) c.2)
    ],
  )

  pub cycle_new : (w : WrittenImport) (b : Bool) → b ≡ option_map_or (λ to. get_or (get_or marks to []) file false) (file_with_path paths (string_bytes w.path)) false
      → (f : Fault) → IsNew file w.token (kind_if b ImportCycle) f ↔ IsCycle paths marks file w f
  cycle_new w b is f =
      let n = new_if file w.token b ImportCycle f in (
        λ h.
            (let k = n.0 h in
            let m = marked_from marks file (file_with_path paths (string_bytes w.path)) (sym is ∙ k.0) in
            (m.0, m.1, m.2, k.1)),
        λ o. n.1 (is ∙ ap (λ p. option_map_or (λ to. get_or (get_or marks to []) file false) p false) o.1 ∙ o.2, o.3),
      )

-- ---- one file more

module _ (paths : List (List ℕ)) (marks : List (List Bool)) (fs : List (List WrittenImport)) where
  pub cycle_file : (k : ℕ) (f : Fault) → (IsCycleBefore paths marks fs k f ⊎ IsCycleIn paths marks k (get_or fs k []) f) ↔ IsCycleBefore paths marks fs (k + 1) f
  cycle_file k f = (
    λ h. elim h [ inl b ↦ (b.0, (let l = b.1 in omega (arith, l)), b.2) | inr i ↦ (k, omega arith, i) ],
    λ b. elim (cases_eq b.0 k) [
      | inl e ↦ inr (subst (λ (file : ℕ). IsCycleIn paths marks file (get_or fs file []) f) e b.2)
      | inr ne ↦ inl (b.0, (let l = b.1 in omega (arith, l, ne)), b.2)
    ],
  )

  -- ---- all faults of imports

  abbrev asked : List AskedImport
  asked = all_asked 0 fs

  module _ (exact : MarksCycles (imports_of paths asked) marks) where
    cycle_to : (f : Fault) → IsCycleBefore paths marks fs (length fs) f → ImportFault paths asked f
    cycle_to f b =
        let k = b.0 in
        let c = b.2 in
        let a = asked_by k c.0 in
        let z : 0 + k ≡ k = omega arith in
        let there = asked_of 0 k fs a b.1 (subst (λ (m : ℕ). Contains (map (asked_by m) (get_or fs k [])) a) (sym z) (contains_map (asked_by k) (get_or fs k []) c.0 c.1)) in
        let y = c.2 in
        let i = import_contained paths asked a y.0 there y.1 in
        let marked : IsMarked (get_or marks i.0.to []) i.0.from = subst (λ (to : ℕ). IsMarked (get_or marks to []) i.0.from) (sym i.3) (subst (λ (from : ℕ). IsMarked (get_or marks y.0 []) from) (sym i.2) y.2) in
        let leads = subst (λ (to : ℕ). Leads (imports_of paths asked) to k) i.3 (subst (λ (from : ℕ). Leads (imports_of paths asked) i.0.to from) i.2 ((exact i.0 i.1).0 marked)) in
        subst (ImportFault paths asked) (sym y.3) (cycle a y.0 there y.1 leads)

    cycle_from : (a : AskedImport) (to : ℕ) → Contains asked a → file_with_path paths a.path ≡ Some to → Leads (imports_of paths asked) to a.place.file → IsCycleBefore paths marks fs (length fs) (fault a.place 12)
    cycle_from a to c e l =
        let r = asked_in 0 fs a c in
        let w = from_map (asked_by (0 + r.0)) (get_or fs r.0 []) a r.3 in
        let i = import_contained paths asked a to c e in
        let leads = subst (λ (t : ℕ). Leads (imports_of paths asked) t i.0.from) (sym i.3) (subst (λ (from : ℕ). Leads (imports_of paths asked) to from) (sym i.2) l) in
        let marked : IsMarked (get_or marks to []) (0 + r.0) = subst (IsMarked (get_or marks to [])) (i.2 ∙ r.2) (subst (λ (t : ℕ). IsMarked (get_or marks t []) i.0.from) i.3 ((exact i.0 i.1).1 leads)) in
        let z : 0 + r.0 ≡ r.0 = omega arith in (
          r.0,
          r.1,
          subst (λ (k : ℕ). IsCycleIn paths marks k (get_or fs r.0 []) (fault a.place 12)) z
              (w.0, w.1, (to, ap (λ (x : AskedImport). file_with_path paths x.path) w.2 ∙ e, marked, ap (λ (x : AskedImport). fault x.place 12) (sym w.2))),
        )

    to_import : (f : Fault) → PathFault paths asked f ⊎ IsCycleBefore paths marks fs (length fs) f → ImportFault paths asked f
    to_import f (inl (unknown a c n)) = unknown_import a c n
    to_import f (inl (double a h)) = double_import a h
    to_import f (inr c) = cycle_to f c

    from_import : (f : Fault) → ImportFault paths asked f → PathFault paths asked f ⊎ IsCycleBefore paths marks fs (length fs) f
    from_import f (unknown_import a c n) = inl (unknown a c n)
    from_import f (double_import a h) = inl (double a h)
    from_import f (cycle a to c e l) = inr (cycle_from a to c e l)

    pub import_cases : (f : Fault) → (PathFault paths asked f ⊎ IsCycleBefore paths marks fs (length fs) f) ↔ ImportFault paths asked f
    import_cases f = (to_import f, from_import f)
