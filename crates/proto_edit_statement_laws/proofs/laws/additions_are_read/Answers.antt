use Rattle.proto_edit_statement_laws.proofs.Imports.{additions_are_read}
use Rattle.proto_edit_statement_laws.proofs.laws.additions_are_read.Goals as goal

pub returns : goal.returns
returns c =
    let runs = c.runs_are_replaced.ensures in
    let made = c.segments_are_made.ensures in
    additions_are_read (record { replaced = runs.replaced; between = runs.between; join = made.join; space = made.space; token = made.token; before = made.before; quoted = made.quoted; decimal = made.decimal })
