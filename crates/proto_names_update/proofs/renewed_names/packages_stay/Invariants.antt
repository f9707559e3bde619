use Rattle.std.proofs.Common.{◌≡◌, ℕ, ◌<◌, get_or, Contains}
use Rattle.proto_names_rules.specs.declared.kind.Kind.TheVariants.{Package}
use Rattle.proto_names_table.specs.declared.table.Row.{Row}
use Rattle.proto_names_update.proofs.renewed_names.packages_stay.Given as goal

abbrev pub invariant-loop-k : goal.invariant-loop-k
invariant-loop-k l = record {
  each : (j : ℕ) → j < l.k → ((r : Row) → (get_or l.table.rows.items (get_or l.before j 0) r).symbol.kind ≡ Package) → Contains l.rows (get_or l.before j 0);
}
