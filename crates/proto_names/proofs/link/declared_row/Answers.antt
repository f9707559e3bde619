use Rattle.std.proofs.Common.{true, false, option_map, sym, ◌∙◌, ap, option_and_then}
use Rattle.std.proofs.lemmas.Option.{slice_get_past}
use Rattle.proto_names.specs.Linking.{declared_row}
use Rattle.proto_names.proofs.Linking.{row_known}
use Rattle.proto_names.proofs.link.declared_row.Goals as goal

pub returns-then-is_declared : goal.returns-then-is_declared
returns-then-is_declared c =
    let look_up = c.in_ok-row.ensures.lookup in
    row_known c.args.rows.now c.args.index c.in_ok-row.row.now look_up.3.0 look_up.1 true (sym c.if-is_declared.true ∙ c.is_declared.ensures)

pub returns-else-is_declared : goal.returns-else-is_declared
returns-else-is_declared c =
    let look_up = c.in_ok-row.ensures.lookup in
    row_known c.args.rows.now c.args.index c.in_ok-row.row.now look_up.3.0 look_up.1 false (sym c.if-is_declared.false ∙ c.is_declared.ensures)

pub returns-in_err-row : goal.returns-in_err-row
returns-in_err-row c = ap (option_map (λ r. r.now)) c.from_residual.ensures ∙ ap (option_and_then declared_row) (sym (slice_get_past c.args.rows.now c.args.index c.in_err-row.ensures.lookup.3))
