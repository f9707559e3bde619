use Rattle.proto_journal.proofs.TornUndos.{torn_undo_is_torn}
use Rattle.proto_journal.proofs.laws.torn_stores.Goals as goal
use Rattle.proto_journal_records.proofs.TornStores.{torn_between_is_torn}

pub returns : goal.returns
returns c = record { made = torn_between_is_torn; undone = torn_undo_is_torn }
