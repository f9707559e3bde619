-- Walks along the imports of files are chains of imports (for the crates above).
use Rattle.std.proofs.Common.{◌↔◌, ℕ, List, sym, subst, refl}
use Rattle.proto_names_rules.proofs.Common.{Leads, onward, stop, Import}
use Rattle.proto_names_imports.proofs.Common.{Walks, goes, stays, IsGraph}

module _ (next : List (List ℕ)) (imports : List Import) (graph : IsGraph next imports) where
  walk_leads : {f g : ℕ} → Walks next f g → Leads imports f g
  walk_leads stays = stop
  walk_leads {f} {g} (goes h c w) = let i = (graph f h).0 c in onward i.0 i.1 i.2 (subst (λ z. Leads imports z g) (sym i.3) (walk_leads w))

  lead_walks : {f g : ℕ} → Leads imports f g → Walks next f g
  lead_walks stop = stays
  lead_walks {f} {g} (onward i c e l) = goes i.to ((graph f i.to).1 (i, c, e, refl)) (lead_walks l)

  pub walks_lead : (f g : ℕ) → Walks next f g ↔ Leads imports f g
  walks_lead f g = (λ w. walk_leads w, λ l. lead_walks l)
