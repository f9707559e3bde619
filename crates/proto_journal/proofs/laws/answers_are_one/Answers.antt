use Rattle.proto_journal.proofs.OneOutcome.{commits_are_one, undos_are_one}
use Rattle.proto_journal.proofs.laws.answers_are_one.Goals as goal

pub returns : goal.returns
returns c =
    let one_way = c.journals_are_read_in_one_way.ensures in
    let steps = c.answers_are_one.ensures.steps in
    let refused = c.answers_are_one.ensures.refused in
    record { commits = commits_are_one one_way steps refused; undos = undos_are_one one_way steps refused }
