use Rattle.proto_journal_records.proofs.Behind.{behind_both}
use Rattle.proto_journal_records.proofs.matching.behind_texts.Goals as goal

pub returns : goal.returns
returns c = behind_both c.behind-rest.ensures (behind_both c.behind_string-rest.ensures (behind_both c.behind-rest-2.ensures (behind_both c.behind_string-rest-2.ensures c.behind.ensures)))
