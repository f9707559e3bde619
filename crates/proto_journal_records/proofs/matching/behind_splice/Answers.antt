use Rattle.json.specs.Print.{escape_byte}
use Rattle.proto_journal_records.specs.RecordText.{splice_data}
use Rattle.proto_journal_records.proofs.Behind.{behind_both}
use Rattle.proto_journal_records.proofs.matching.behind_splice.Goals as goal

pub returns : goal.returns
unfolding splice_data escape_byte
returns c =
    let all =
    behind_both c.behind-rest.ensures (behind_both c.behind_number-rest.ensures (behind_both c.behind-rest-2.ensures (behind_both c.behind_string-rest.ensures
    (behind_both c.behind-rest-3.ensures (behind_both c.behind_string-rest-2.ensures c.behind.ensures))))) in
    rw (c.deref.ensures, c.deref-2.ensures) at all
