-- A store that is torn while an entry is being undone: each file of the entry is as before or as after it.
use Rattle.proto_journal.specs.Laws.{TornUndoIsTorn}
use Rattle.proto_journal_records.proofs.TornStores.{leads_forth, torn_at}

pub torn_undo_is_torn : TornUndoIsTorn
torn_undo_is_torn v records entry before after held is undo torn = torn_at v records entry before after held (leads_forth entry before after is undo.put) undo.put torn
