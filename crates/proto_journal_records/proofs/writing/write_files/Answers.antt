use Rattle.std.proofs.Common.{subst, List}
use Rattle.std.specs.Prelude.{OnOk}
use Rattle.proto_edit_entries.specs.Entries.{ChangeOf}
use Rattle.proto_journal_records.specs.Journals.{AreTextual}
use Rattle.proto_journal_records.proofs.writing.write_files.Goals as goal

pub returns-clause-texts : goal.returns-clause-texts
returns-clause-texts c = subst (λ (cs : List ChangeOf). OnOk c.write_changes.result (AreTextual cs)) c.changes.ensures.items c.write_changes.ensures.texts
