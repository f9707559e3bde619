use Rattle.proto_journal_records.proofs.RecordTexts.{same_length, texts_apart}
use Rattle.proto_journal_records.proofs.laws.records_have_one_text.Goals as goal

pub returns : goal.returns
returns c = record { one = texts_apart; length = same_length }
