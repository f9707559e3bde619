use Rattle.std.proofs.Common.{ap, ◌∙◌}
use Rattle.std.specs.Prelude.{Err}
use Rattle.std.proofs.lemmas.Result.{err_from_is_err_and}
use Rattle.proto_journal_records.proofs.Migrations.{not_read}
use Rattle.proto_journal_records.proofs.migrating.migrated_text.Goals as goal

pub returns-in_err-version : goal.returns-in_err-version
returns-in_err-version c =
    let p = err_from_is_err_and c.from_residual.result c.from_residual.ensures.1 in
    rw (p.1, p.2) (not_read c.args.journal.now _ c.in_err-version.ensures.err (λ e. c.read_journal.ensures.bad (c.in_err-version.was ∙ ap Err e)))
