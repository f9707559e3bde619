use Rattle.std.proofs.Common.{length, map, sym, ◌∙◌, ap, subst, arith, All}
use Rattle.proto_base.proofs.Common.{length-map}
use Rattle.proto_names_table.proofs.Common.{AreSpelled}
use Rattle.proto_names_faults.proofs.TableNames.{names_of_table, rows_listed, rows_within, spelled_of}
use Rattle.proto_names_faults.proofs.names.names_of_files.Goals as goal

pub declare_all-requires-clause-count : goal.declare_all-requires-clause-count
declare_all-requires-clause-count c = omega (arith, ap length c.deref.ensures.value, c.in_ok-spelled.ensures.len, c.len-count.ensures.workspace.few)

pub declare_all-requires-clause-spelled : goal.declare_all-requires-clause-spelled
declare_all-requires-clause-spelled c = subst (All (λ v. AreSpelled v.items)) (sym c.deref.ensures.value) c.in_ok-spelled.ensures.spelled

pub returns-in-Ok-clause-names : goal.returns-in-Ok-clause-names
returns-in-Ok-clause-names c = λ reads are.
    (let e = c.in_ok-spelled.ensures in
    let spelled = spelled_of c.args.files.now c.deref.result.now c.in_ok-spelled.spelled.items c.deref.ensures.value e.len e.spelled e.each e.names in
    names_of_table c.args.files.now reads are (map (λ v. v.items) c.deref.result.now) spelled c.in-Ok.names.0 c.in-Ok.names.1.items c.in-Ok.ensures.rows c.in-Ok.ensures.index)

pub returns-in-Ok-clause-rows : goal.returns-in-Ok-clause-rows
returns-in-Ok-clause-rows c =
    let e = c.in_ok-spelled.ensures in
    let fs = map (λ v. v.items) c.deref.result.now in
    let rows = c.in-Ok.names.1.items in
    let spelled = spelled_of c.args.files.now c.deref.result.now c.in_ok-spelled.spelled.items c.deref.ensures.value e.len e.spelled e.each e.names in
    record {
      table = c.in-Ok.ensures.table;
      paired = sym (length-map rows (λ v. v.items)) ∙ c.in-Ok.ensures.rows.paired ∙ length-map c.deref.result.now (λ v. v.items) ∙ ap length c.deref.ensures.value ∙ e.len;
      counts = rows_listed c.in-Ok.names.0 fs rows c.in-Ok.ensures.rows c.args.files.now c.are_read.ensures.0 c.are_read.ensures.1 spelled c.args.listings.now c.requires;
      within = rows_within c.in-Ok.names.0 fs rows c.in-Ok.ensures.rows;
    }
