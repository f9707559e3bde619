use Rattle.proto_journal_records.proofs.Apart.{no_text_is_both}
use Rattle.proto_journal_records.proofs.TornStores.{torn_between_is_torn}
use Rattle.proto_journal_records.proofs.recovery_laws.torn_stores.Goals as goal

pub returns : goal.returns
returns c = record { either = torn_between_is_torn; apart = no_text_is_both }
