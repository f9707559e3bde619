-- Rows that no file declares any more, and the symbols that are left.
use Rattle.std.specs.Prelude.{◌≡◌, ◌≢◌, ◌⊎◌, ◌↔◌, ℕ, ◌<◌, false, List, [], length, get_or}
use Rattle.std.specs.List.{Contains}
use Rattle.proto_names_rules.specs.declared.kind.Kind.TheVariants.{Package}
use Rattle.proto_names_rules.specs.Joined.{joined}
use Rattle.proto_names_rules.specs.Names.{Symbol}
use Rattle.proto_names_table.specs.Tables.{names_of, with_declaration}
use Rattle.proto_names_table.specs.declared.table.Row.{Row}
use Rattle.proto_names_table.specs.declared.table.Table.{Table}

-- the row is one of these, and no package's
pub record Goes (rows : List ℕ) (t : Table) (k : ℕ) : Type 0 where
  pub listed : Contains rows k
  pub other : (r : Row) → (get_or t.rows.items k r).symbol.kind ≢ Package

-- a row that no file declares any more
abbrev pub undeclared : Row → Row
undeclared r = with_declaration r.symbol false r

-- of these rows those that are no package's are declared no more, and all else of the table stays
pub record AreForgotten (rows : List ℕ) (old new : Table) : Type 0 where
  pub size : length new.rows.items ≡ length old.rows.items
  pub below : new.below ≡ old.below
  pub each : (k : ℕ) (r : Row) → k < length old.rows.items
      → (Goes rows old k × (get_or new.rows.items k r ≡ undeclared (get_or old.rows.items k r)))
      ⊎ ((Goes rows old k → ⊥) × (get_or new.rows.items k r ≡ get_or old.rows.items k r))

-- the symbols but those with the names of these rows, where they are no package's
abbrev pub AreLeft : List ℕ → Table → List Symbol → List Symbol → Type 0
AreLeft rows t old rest =
    (s : Symbol)
    → Contains rest s
    ↔ (Contains old s × ((k : ℕ) → Goes rows t k → joined s.name ≢ get_or (names_of t) k []))
