use Rattle.json.specs.Print.{escape_byte}
use Rattle.proto_journal_records.specs.RecordText.{change_data}
use Rattle.proto_journal_records.proofs.Behind.{behind_both}
use Rattle.proto_journal_records.proofs.matching.behind_change.Goals as goal

pub returns-clause-behind : goal.returns-clause-behind
unfolding change_data escape_byte
returns-clause-behind c =
    let all =
    behind_both c.behind-rest.ensures (behind_both c.behind_number-rest.ensures (behind_both c.behind-rest-2.ensures (behind_both c.behind_number-rest-2.ensures
    (behind_both c.behind-rest-3.ensures (behind_both c.behind_string-rest.ensures (behind_both c.behind-rest-4.ensures (behind_both c.behind_edits-rest.ensures.behind c.behind.ensures))))))) in
    rw c.deref.ensures at all
