use Rattle.std.proofs.Common.{length, map, sym, ◌∙◌, ap, subst, arith, All}
use Rattle.proto_base.proofs.Common.{length-map, err_from_is_err_and}
use Rattle.proto_names_table.proofs.Common.{IsNameError, AreSpelled, ClashFault, all_named}
use Rattle.proto_names_table.specs.declared.filling.NameError.TheVariants.{Clash}
use Rattle.proto_names.proofs.NameErrors.{clash_error, clash_within, no_name_fault}
use Rattle.proto_names.proofs.TableNames.{spelled_of, names_of_table, rows_listed, rows_within}
use Rattle.proto_names.proofs.whole_link.linked_names.Goals as goal

pub returns-in-Ok-clause-names : goal.returns-in-Ok-clause-names
returns-in-Ok-clause-names c = λ reads are.
    (let e = c.in_ok-spelled.ensures in
    let spelled = spelled_of c.args.files.now c.deref.result.now c.in_ok-spelled.spelled.items c.deref.ensures.value e.len e.spelled e.each e.names in
    names_of_table c.args.files.now reads are (map (λ v. v.items) c.deref.result.now) spelled c.in-Ok.names.0 c.in-Ok.names.1.items c.in-Ok.ensures.rows c.in-Ok.ensures.index)

pub returns-in-Ok-clause-rows : goal.returns-in-Ok-clause-rows
returns-in-Ok-clause-rows c =
    let e = c.in_ok-spelled.ensures in
    let spelled = spelled_of c.args.files.now c.deref.result.now c.in_ok-spelled.spelled.items c.deref.ensures.value e.len e.spelled e.each e.names in
    rows_listed c.in-Ok.names.0 (map (λ v. v.items) c.deref.result.now) c.in-Ok.names.1.items c.in-Ok.ensures.rows c.args.files.now c.are_read.ensures.0 c.are_read.ensures.1 spelled c.args.listings.now c.requires.listings

pub returns-in-Ok-clause-within : goal.returns-in-Ok-clause-within
returns-in-Ok-clause-within c = rows_within c.in-Ok.names.0 (map (λ v. v.items) c.deref.result.now) c.in-Ok.names.1.items c.in-Ok.ensures.rows

pub returns-in-Ok-clause-clean : goal.returns-in-Ok-clause-clean
returns-in-Ok-clause-clean c = λ reads are.
    (let e = c.in_ok-spelled.ensures in
    let spelled = spelled_of c.args.files.now c.deref.result.now c.in_ok-spelled.spelled.items c.deref.ensures.value e.len e.spelled e.each e.names in
    no_name_fault c.args.files.now reads are (all_named 0 (map (λ v. v.items) c.deref.result.now)) (spelled.names reads are) c.in-Ok.ensures.clean)

pub fault_at_token-requires : goal.fault_at_token-requires
fault_at_token-requires c =
    let e = c.in_ok-spelled.ensures in
    let spelled = spelled_of c.args.files.now c.deref.result.now c.in_ok-spelled.spelled.items c.deref.ensures.value e.len e.spelled e.each e.names in
    let ds = all_named 0 (map (λ v. v.items) c.deref.result.now) in
    let clash : IsNameError (ClashFault ds) (Clash c.in-Err-Clash.file c.in-Err-Clash.token) = subst (IsNameError (ClashFault ds)) c.in-Err-Clash.field-0-is c.in-Err-Clash.ensures.fault in
    clash_within c.args.files.now c.are_read.ensures.0 c.are_read.ensures.1 ds (spelled.names c.are_read.ensures.0 c.are_read.ensures.1) c.in-Err-Clash.file c.in-Err-Clash.token clash

pub returns-in-Err-Clash-clause-fault : goal.returns-in-Err-Clash-clause-fault
returns-in-Err-Clash-clause-fault c =
    let e = c.in_ok-spelled.ensures in
    let spelled = spelled_of c.args.files.now c.deref.result.now c.in_ok-spelled.spelled.items c.deref.ensures.value e.len e.spelled e.each e.names in
    let ds = all_named 0 (map (λ v. v.items) c.deref.result.now) in
    let clash : IsNameError (ClashFault ds) (Clash c.in-Err-Clash.file c.in-Err-Clash.token) = subst (IsNameError (ClashFault ds)) c.in-Err-Clash.field-0-is c.in-Err-Clash.ensures.fault in
    clash_error c.args.files.now c.are_read.ensures.0 c.are_read.ensures.1 ds (spelled.names c.are_read.ensures.0 c.are_read.ensures.1)
    c.len-count.ensures.workspace c.requires.imports c.in-Err-Clash.file c.in-Err-Clash.token c.fault_at_token.result clash c.fault_at_token.ensures

pub declare_all-requires-clause-count : goal.declare_all-requires-clause-count
declare_all-requires-clause-count c = omega (arith, ap length c.deref.ensures.value, c.in_ok-spelled.ensures.len, c.len-count.ensures.workspace.few)

pub declare_all-requires-clause-spelled : goal.declare_all-requires-clause-spelled
declare_all-requires-clause-spelled c = subst (All (λ v. AreSpelled v.items)) (sym c.deref.ensures.value) c.in_ok-spelled.ensures.spelled

pub returns-in-Ok-clause-table : goal.returns-in-Ok-clause-table
returns-in-Ok-clause-table c = c.in-Ok.ensures.table

pub returns-in-Ok-clause-paired : goal.returns-in-Ok-clause-paired
returns-in-Ok-clause-paired c =
    sym (length-map c.in-Ok.names.1.items (λ v. v.items)) ∙ c.in-Ok.ensures.rows.paired ∙ length-map c.deref.result.now (λ v. v.items) ∙ ap length c.deref.ensures.value ∙ c.in_ok-spelled.ensures.len

pub returns-in_err-spelled : goal.returns-in_err-spelled
returns-in_err-spelled c = let e = err_from_is_err_and c.from_residual.result c.from_residual.ensures.1 in rw (e.1, e.2) (record { table = tt; names = tt; paired = tt; rows = tt; within = tt; clean = tt; fault = tt })
