use Rattle.std.proofs.Common.{None, Some, true, false, if◌then◌else◌, option_map, slice_get, sym, ◌∙◌, ap, option_and_then}
use Rattle.proto_names_rules.specs.Linked.{is_package}
use Rattle.proto_names_table.specs.declared.table.Row.{Row}
use Rattle.proto_names.specs.Linking.{declared_row}
use Rattle.proto_names.proofs.Linking.{from_declared, unless_package}
use Rattle.proto_names.proofs.link.own_row.Goals as goal

pub returns-then-is_package-clause-exact : goal.returns-then-is_package-clause-exact
returns-then-is_package-clause-exact c = unless_package c.in_ok-row.row.now (option_and_then declared_row (slice_get c.args.rows.now c.args.index)) c.in_ok-row.ensures true (sym c.if-is_package.true ∙ c.is_package.ensures)

pub returns-else-is_package-clause-exact : goal.returns-else-is_package-clause-exact
returns-else-is_package-clause-exact c = unless_package c.in_ok-row.row.now (option_and_then declared_row (slice_get c.args.rows.now c.args.index)) c.in_ok-row.ensures false (sym c.if-is_package.false ∙ c.is_package.ensures)

pub returns-else-is_package-clause-declared : goal.returns-else-is_package-clause-declared
returns-else-is_package-clause-declared c = from_declared c.in_ok-row.row.now (slice_get c.args.rows.now c.args.index) c.in_ok-row.ensures

pub returns-in_err-row-clause-exact : goal.returns-in_err-row-clause-exact
returns-in_err-row-clause-exact c =
    ap (option_map (λ r. r.now)) c.from_residual.ensures
    ∙ ap (option_and_then (λ (r : Row). if is_package r.symbol.kind then None else Some r)) c.in_err-row.ensures
