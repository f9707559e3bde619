use Rattle.std.proofs.Common.{subst, sym}
use Rattle.json.specs.Print.{escape_byte}
use Rattle.serde_json.specs.Written.{compact_text}
use Rattle.proto_journal_records.specs.Behind.{IsBehind}
use Rattle.proto_journal_records.specs.Common.{Version, record_of}
use Rattle.proto_journal_records.specs.RecordText.{record_data}
use Rattle.proto_journal_records.proofs.Behind.{behind_both}
use Rattle.proto_journal_records.proofs.matching.behind_record.Goals as goal

pub returns-in-First-clause-behind : goal.returns-in-First-clause-behind
unfolding record_data escape_byte
returns-in-First-clause-behind c =
    subst (λ (v : Version). IsBehind (compact_text (record_data v (record_of c.args.parts.now))) c.args.bytes c.behind_rest.result) (sym c.in-First.is)
    (behind_both c.behind-rest.ensures c.behind_rest.ensures.behind)

pub returns-in-Second-clause-behind : goal.returns-in-Second-clause-behind
unfolding record_data escape_byte
returns-in-Second-clause-behind c =
    subst (λ (v : Version). IsBehind (compact_text (record_data v (record_of c.args.parts.now))) c.args.bytes c.behind_rest-in-Second.result) (sym c.in-Second.is)
    (behind_both c.behind-rest-in-Second.ensures (behind_both c.behind_edit-rest.ensures (behind_both c.behind-rest-in-Second-2.ensures c.behind_rest-in-Second.ensures.behind)))
