use Rattle.std.proofs.Common.{ap}
use Rattle.proto_files.specs.GivenFiles.{files_of}
use Rattle.proto_journal_records.proofs.OldTexts.{added_to_none}
use Rattle.proto_journal_records.proofs.restoring.old_files.Goals as goal

pub returns-clause-ok : goal.returns-clause-ok
returns-clause-ok g c =
    added_to_none c.args.entry.now (g.S.Store.holds c.args.store.now) (files_of c.new-files.result.items) (files_of c.add_old_files.new.files.items) (ap files_of c.new-files.ensures.items)
    c.in_ok-add_old_files.ensures.ok
