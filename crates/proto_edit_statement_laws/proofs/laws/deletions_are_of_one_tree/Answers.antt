use Rattle.proto_edit_statement_laws.proofs.Deletions.{deletions_are_of_one_tree}
use Rattle.proto_edit_statement_laws.proofs.StandsOnce.{fields_stand_once}
use Rattle.proto_edit_statement_laws.proofs.TextLaws.{Laws}
use Rattle.proto_edit_statement_laws.proofs.laws.deletions_are_of_one_tree.Goals as goal

pub returns : goal.returns
returns c =
    let runs = c.runs_are_replaced.ensures in
    let made = c.segments_are_made.ensures in
    let laws : Laws = record { replaced = runs.replaced; between = runs.between; join = made.join; space = made.space; token = made.token; before = made.before; quoted = made.quoted; decimal = made.decimal } in
    record { read = deletions_are_of_one_tree laws; once = fields_stand_once }
