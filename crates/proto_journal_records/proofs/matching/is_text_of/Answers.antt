use Rattle.std.proofs.Common.{Some, None, subst, sym}
use Rattle.serde_json.specs.Written.{compact_text}
use Rattle.proto_base.proofs.Common.{false≢true}
use Rattle.proto_journal_records.specs.Behind.{IsBehind}
use Rattle.proto_journal_records.specs.Common.{RecordOf, IsTold, record_data}
use Rattle.proto_journal_records.proofs.Behind.{not_behind}
use Rattle.proto_journal_records.proofs.matching.is_text_of.Goals as goal

pub behind_record-requires : goal.behind_record-requires
behind_record-requires c = subst (λ (r : RecordOf). IsTold c.args.version r.edit) (sym c.parts.ensures.parts) c.requires

pub returns-in-None-clause-same : goal.returns-in-None-clause-same
returns-in-None-clause-same c =
    let v = c.args.version in
    let h = subst (λ (r : RecordOf). IsBehind (compact_text (record_data v r)) (Some c.args.line) None) c.parts.ensures.parts c.in-None.ensures.behind in
    (λ t. absurd (false≢true t), λ e. absurd (not_behind (compact_text (record_data v c.args.noted.now)) c.args.line h e))
