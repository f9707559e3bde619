use Rattle.std.proofs.Common.{◌≡◌, ℕ, List, get_or, subst, Contains}
use Rattle.proto_names_rules.specs.declared.kind.Kind.TheVariants.{Package}
use Rattle.proto_names_table.specs.declared.table.Row.{Row}
use Rattle.proto_names_update.proofs.renewed_names.if_packages_stay.Goals as goal

pub returns-then-packages_stay-clause-packages : goal.returns-then-packages_stay-clause-packages
returns-then-packages_stay-clause-packages c =
    subst (λ (z : List ℕ). (row : ℕ) → Contains c.args.before.now row → ((r : Row) → (get_or c.args.table.now.rows.items row r).symbol.kind ≡ Package) → Contains z row) c.deref.ensures.value
    (c.packages_stay.ensures c.if-packages_stay.true)
