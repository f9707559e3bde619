use Rattle.std.proofs.lemmas.Result.{on_err_weaker}
use Rattle.proto_files.specs.GivenFiles.{files_of}
use Rattle.proto_journal_records.proofs.OldFiles.{cut_at_journal}
use Rattle.proto_journal_records.proofs.putting.put_back.Goals as goal

pub returns-clause-err : goal.returns-clause-err
returns-clause-err g c =
    on_err_weaker c.replace_journal.result (cut_at_journal (files_of c.args.files.now) c.args.journal.now (g.S.Store.holds c.args.store.now) (g.S.Store.holds c.put_files.new.store)
    (g.S.Store.holds c.replace_journal.new.self) c.in_ok-put_files.ensures.ok) c.replace_journal.ensures.err
