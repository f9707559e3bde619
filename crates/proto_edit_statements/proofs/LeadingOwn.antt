-- A file leads to another by one of its own imports.
use Rattle.std.proofs.Common.{◌≡◌, ℕ, List, [], get_or, refl, sym, ◌∙◌, ap, subst, Contains}
use Rattle.proto_names_rules.proofs.Common.{Import, Leads, onward, stop}
use Rattle.proto_names_imports.proofs.Common.{all_imports, import_from}
use Rattle.proto_names_imports.specs.declared.import.FileImport.{FileImport}
use Rattle.proto_edit_statement_laws.proofs.NamesCommon.{import_own, own_import}

module _ (is : List (List FileImport)) (from : ℕ) where
  abbrev LeadsByOwn : ℕ → Type 0
  LeadsByOwn to = (i : FileImport) × Contains (get_or is from []) i × Leads (all_imports 0 is) i.to to

  pub own_leads : (to : ℕ) → LeadsByOwn to → Leads (all_imports 0 is) from to
  own_leads to x = onward (import_from from x.0) (import_own is from x.0 x.1) refl x.2

  pub leads_by_own : {f to : ℕ} → Leads (all_imports 0 is) f to → f ≡ from → (f ≡ to → ⊥) → LeadsByOwn to
  leads_by_own stop here apart = absurd (apart refl)
  leads_by_own {f} {to} (onward i c e l) here apart =
      let own = own_import is from i c (e ∙ here) in
      (own.0, own.1, subst (λ k. Leads (all_imports 0 is) k to) (sym (ap (λ (x : Import). x.to) own.2)) l)
