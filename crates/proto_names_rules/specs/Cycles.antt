-- Chains of imports of either kind.
use Rattle.std.specs.Prelude.{◌≡◌, ℕ, List}
use Rattle.std.specs.List.{Contains}
use Rattle.proto_names_rules.specs.Names.{Import}

-- imports, public or not, lead from the one file to the other; each file leads to itself
pub data Leads (imports : List Import) : ℕ → ℕ → Type 0 where
  stop : {f : ℕ} → Leads imports f f
  onward : {f g : ℕ} (i : Import) → Contains imports i → i.from ≡ f → Leads imports i.to g
      → Leads imports f g

-- no imported file leads back to the file that imports it
abbrev pub IsAcyclic : List Import → Type 0
IsAcyclic imports = (i : Import) → Contains imports i → Leads imports i.to i.from → ⊥
