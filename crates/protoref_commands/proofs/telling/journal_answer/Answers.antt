use Rattle.std.proofs.Common.{[], refl}
use Rattle.std.proofs.lemmas.Result.{err_from_is_err_and}
use Rattle.protoref_output.specs.declared.answer.Answer.TheVariants.{Text}
use Rattle.protoref_output.specs.declared.status.Status.TheVariants.{Problem}
use Rattle.protoref_commands.proofs.Tellings.{line_counts, line_told, memory_counts, memory_told}
use Rattle.protoref_commands.proofs.telling.journal_answer.Goals as goal

pub returns-in_err-text-in_default-clause-told : goal.returns-in_err-text-in_default-clause-told
returns-in_err-text-in_default-clause-told c plain =
    let p = err_from_is_err_and c.from_residual.result c.from_residual.ensures.1 in
    rw (p.1, p.2) (memory_told [] c.args.fault.now c.in_default.not-Store)

pub returns-in_err-text-in_default-clause-count : goal.returns-in_err-text-in_default-clause-count
returns-in_err-text-in_default-clause-count c =
    let p = err_from_is_err_and c.from_residual.result c.from_residual.ensures.1 in
    rw (p.1, p.2) (memory_counts c.args.fault.now c.in_default.not-Store)

pub returns-in_ok-text-in_default-clause-told : goal.returns-in_ok-text-in_default-clause-told
returns-in_ok-text-in_default-clause-told c plain =
    line_told [] c.args.fault.now (Text c.in_ok-text-in_default.text Problem) c.in_default.not-Store c.in_default.not-NoMemory plain c.in_ok-text-in_default.ensures refl

pub returns-in_ok-text-in_default-clause-count : goal.returns-in_ok-text-in_default-clause-count
returns-in_ok-text-in_default-clause-count c = line_counts c.args.fault.now (Text c.in_ok-text-in_default.text Problem) c.in_default.not-Store
