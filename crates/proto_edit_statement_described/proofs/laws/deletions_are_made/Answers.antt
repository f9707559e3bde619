use Rattle.proto_edit_statement_described.proofs.Workspace.{Laws, deletions_are_made, deletions_leave_files}
use Rattle.proto_edit_statement_described.proofs.laws.deletions_are_made.Goals as goal

pub returns : goal.returns
returns c =
    let runs = c.runs_are_replaced.ensures in
    let made = c.segments_are_made.ensures in
    let laws : Laws = record { texts = record { replaced = runs.replaced; between = runs.between; join = made.join; space = made.space; token = made.token; before = made.before; quoted = made.quoted; decimal = made.decimal }; lexemes = c.statements_are_exchanged.ensures.tokens } in
    record { made = deletions_are_made laws c.deletions_are_changes.ensures; left = deletions_leave_files laws c.deletions_are_changes.ensures }
