use Rattle.std.proofs.Common.{List, ℕ, sym, subst, Option}
use Rattle.proto_base.proofs.Common.{Keeps-refl, err_from_is_err_and}
use Rattle.protoref_output.specs.Answers.{status_of, printed_text}
use Rattle.protoref_output.specs.declared.status.Status.{Status}
use Rattle.proto_store.specs.Stores.{Held}
use Rattle.protoref_commands.specs.Commands.{Answered}
use Rattle.protoref_commands.proofs.Printing.{ran_early}
use Rattle.protoref_commands.proofs.running.run_keeping.Goals as goal

pub returns-in_err-answer-clause-ran : goal.returns-in_err-answer-clause-ran
returns-in_err-answer-clause-ran g c =
    let known : Option (List ℕ) = g.W.Write.contents c.args.writer.now in
    let p = err_from_is_err_and c.from_residual.result c.from_residual.ensures.1 in
    rw (p.1, p.2)
    (ran_early c.args.command (g.S.Store.holds c.args.store.now) (g.S.Store.holds c.answer_of.new.store) known known c.in_err-answer.field-0.0
    c.in_err-answer.ensures.outcome (Keeps-refl known))

pub returns-in_err-status-clause-ran : goal.returns-in_err-status-clause-ran
returns-in_err-status-clause-ran g c =
    let p = err_from_is_err_and c.from_residual-in_err-status.result c.from_residual-in_err-status.ensures.1 in
    rw (p.1, p.2) (printed_text c.in_ok-answer.answer, status_of c.in_ok-answer.answer, c.in_ok-answer.ensures.outcome, c.in_err-status.ensures.err)

pub returns-clause-ran : goal.returns-clause-ran
returns-clause-ran g c =
    let before : Option Held = g.S.Store.holds c.args.store.now in
    let after : Option Held = g.S.Store.holds c.answer_of.new.store in
    let text : List ℕ = printed_text c.in_ok-answer.answer in
    let answered : Answered c.args.command before after text c.in_ok-status.status =
    subst (λ (s : Status). Answered c.args.command before after text s) (sym c.in_ok-status.ensures.ok.1) c.in_ok-answer.ensures.outcome in
    (text, answered, c.in_ok-status.ensures.ok.0)
