use Rattle.std.proofs.Common.{None, Some, sym, ◌∙◌, ap}
use Rattle.std.proofs.lemmas.Result.{err_from_is_err_and}
use Rattle.proto_names.specs.Referring.{row_flaw}
use Rattle.proto_names.proofs.Referring.{else_error, row_got}
use Rattle.proto_names.proofs.references.sound_row.Goals as goal

pub returns-in-Some : goal.returns-in-Some
returns-in-Some c =
    let got = row_got c.args.table.now c.deref.result.now c.deref.ensures.value c.in_ok-row.row c.args.wants c.args.row c.in_ok-row.ensures.ok_part c.get.result c.get.ensures.lookup (Some c.in_ok-found.found) c.in_ok-found.ensures.ok_part in
    record { row = tt; flaw = got ∙ sym c.in-Some.ensures }

pub returns-in-None : goal.returns-in-None
returns-in-None c =
    let got = row_got c.args.table.now c.deref.result.now c.deref.ensures.value c.in_ok-row.row c.args.wants c.args.row c.in_ok-row.ensures.ok_part c.get.result c.get.ensures.lookup (Some c.in_ok-found.found) c.in_ok-found.ensures.ok_part in
    record { row = (c.in_ok-row.ensures.ok_part, got ∙ sym c.in-None.ensures); flaw = tt }

pub returns-in_err-row : goal.returns-in_err-row
returns-in_err-row c =
    let e = err_from_is_err_and c.from_residual.result c.from_residual.ensures.1 in
    rw (e.1, e.2) (record { row = tt; flaw = ap (λ o. row_flaw c.args.table.now o c.args.wants) c.in_err-row.ensures.ok_part ∙ else_error c.args.row c.in_err-row.field-0.0 c.in_err-row.ensures.value })

pub returns-in_err-found : goal.returns-in_err-found
returns-in_err-found c =
    let e = err_from_is_err_and c.from_residual-in_err-found.result c.from_residual-in_err-found.ensures.1 in
    let got = row_got c.args.table.now c.deref.result.now c.deref.ensures.value c.in_ok-row.row c.args.wants c.args.row c.in_ok-row.ensures.ok_part c.get.result c.get.ensures.lookup None c.in_err-found.ensures.ok_part in
    rw (e.1, e.2) (record { row = tt; flaw = got ∙ else_error c.get.result c.in_err-found.field-0.0 c.in_err-found.ensures.value })
