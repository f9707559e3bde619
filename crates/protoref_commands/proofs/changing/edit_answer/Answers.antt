use Rattle.std.proofs.Common.{Result, Err, ap, sym, subst, Option}
use Rattle.std.proofs.lemmas.Result.{err_from_is_err_and}
use Rattle.proto_journal.specs.Answers.{asked}
use Rattle.proto_journal.specs.Commits.{CommitOutcome}
use Rattle.protoref_output.specs.declared.run_fault.RunFault.{RunFault}
use Rattle.proto_store.specs.Stores.{Held, HoldsFiles}
use Rattle.protoref_commands.specs.Common.{Begins, MayBegin, TellsOf, Beginning}
use Rattle.protoref_commands.proofs.Tellings.{edit_answers, ends_unedited, may_hold, never_edits}
use Rattle.protoref_commands.proofs.changing.edit_answer.Goals as goal

abbrev ended : RunFault → Result Beginning RunFault
ended x = Err x

pub returns-in_err-beginning-clause-outcome : goal.returns-in_err-beginning-clause-outcome
returns-in_err-beginning-clause-outcome g c =
    let p = err_from_is_err_and c.from_residual.result c.from_residual.ensures.1 in
    rw (p.1, p.2)
    (ends_unedited (asked c.args.edit) (g.S.Store.holds c.args.store.now) (g.S.Store.holds c.begin.new.store) c.in_err-beginning.field-0.0
    (λ is. c.in_err-beginning.ensures.unwritten (ap ended is)) c.begin.ensures.same)

pub answer_of_commit-requires-clause-loaded : goal.answer_of_commit-requires-clause-loaded
answer_of_commit-requires-clause-loaded g c =
    let held : Option Held = g.S.Store.holds c.args.store.now in
    let may : MayBegin c.in-Over.workspace held = subst (Begins held) c.in-Over.is c.in_ok-beginning.ensures.begins in
    subst (λ (h : Option Held). HoldsFiles h c.in-Over.workspace) (sym c.begin.ensures.same) (may_hold c.in-Over.workspace held may)

pub returns-in-Over-clause-outcome : goal.returns-in-Over-clause-outcome
returns-in-Over-clause-outcome g c =
    let held : Option Held = g.S.Store.holds c.args.store.now in
    let after : Option Held = g.S.Store.holds c.answer_of_commit.new.store in
    let may : MayBegin c.in-Over.workspace held = subst (Begins held) c.in-Over.is c.in_ok-beginning.ensures.begins in
    let told : TellsOf (CommitOutcome (asked c.args.edit)) c.in-Over.workspace held after c.answer_of_commit.result =
    subst (λ (h : Option Held). TellsOf (CommitOutcome (asked c.args.edit)) c.in-Over.workspace h after c.answer_of_commit.result) c.begin.ensures.same c.answer_of_commit.ensures.told in
    edit_answers (asked c.args.edit) c.in-Over.workspace held after c.answer_of_commit.result may told

pub returns-in-Never-clause-outcome : goal.returns-in-Never-clause-outcome
returns-in-Never-clause-outcome g c =
    let held : Option Held = g.S.Store.holds c.args.store.now in
    never_edits (asked c.args.edit) held (g.S.Store.holds c.begin.new.store) c.in-Never.answer (subst (Begins held) c.in-Never.is c.in_ok-beginning.ensures.begins) c.begin.ensures.same
