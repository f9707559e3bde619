use Rattle.std.proofs.Common.{◌∙◌}
use Rattle.proto_files.specs.GivenFiles.{file_at}
use Rattle.proto_journal.proofs.Replacing.{as_told, half_told, on_err, on_ok}
use Rattle.proto_journal.proofs.writing.put_file.Goals as goal

pub returns-clause-ok : goal.returns-clause-ok
returns-clause-ok g c =
    on_ok c.replace.result _ _ (λ e. as_told _ _ _ _ (file_at c.args.after.now c.args.place) c.path.ensures (c.as_bytes.ensures.value ∙ c.source.ensures) e) c.replace.ensures.ok

pub returns-clause-err : goal.returns-clause-err
returns-clause-err g c =
    on_err c.replace.result _ _ (λ e. half_told _ _ _ _ (file_at c.args.after.now c.args.place) c.path.ensures (c.as_bytes.ensures.value ∙ c.source.ensures) e) c.replace.ensures.err
