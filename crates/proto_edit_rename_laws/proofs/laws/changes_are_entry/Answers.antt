use Rattle.proto_edit_rename_laws.proofs.ChangesEntry.{changes_are_entry, texts_after}
use Rattle.proto_edit_rename_laws.proofs.OldTexts.{old_texts}
use Rattle.proto_edit_rename_laws.proofs.laws.changes_are_entry.Goals as goal

pub returns : goal.returns
returns c = record { old = old_texts; entry = changes_are_entry; texts = texts_after }
