use Rattle.proto_edit_statement_described.proofs.Workspace.{Laws, deletions_are_mapped, no_fault_comes_in}
use Rattle.proto_edit_statement_described.proofs.laws.deletions_leave_no_fault.Goals as goal

pub returns : goal.returns
returns c =
    let runs = c.runs_are_replaced.ensures in
    let made = c.segments_are_made.ensures in
    let laws : Laws = record { texts = record { replaced = runs.replaced; between = runs.between; join = made.join; space = made.space; token = made.token; before = made.before; quoted = made.quoted; decimal = made.decimal }; lexemes = c.statements_are_exchanged.ensures.tokens } in
    record { faults = no_fault_comes_in laws; mapped = deletions_are_mapped laws }
