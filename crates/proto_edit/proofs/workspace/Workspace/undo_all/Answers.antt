use Rattle.std.proofs.Common.{List, reverse, length, subst}
use Rattle.proto_base.proofs.Common.{YieldsList-from_rev_slice, YieldsList-so_far, YieldsList-turn, YieldsList-end}
use Rattle.proto_edit.specs.Common.{IsUndoAllRefusal, Undone}
use Rattle.proto_edit_entries.specs.Entries.{ChangeOf}
use Rattle.proto_edit.proofs.Chains.{undone_next, stuck_so, back_ok, back_err}
use Rattle.proto_edit.proofs.workspace.Workspace.undo_all.Goals.{In-Err}
use Rattle.proto_edit.proofs.workspace.Workspace.undo_all.Goals as goal

pub loop-entry-preserved : goal.loop-entry-preserved
loop-entry-preserved c = undone_next c.args.self.now c.loop-entry.workspace c.undo.new.self c.loop-entry.yielded c.in-Some.entry c.loop-entry.invariant c.in-Ok.ensures.ok

refused : (c : In-Err) → IsUndoAllRefusal c.args.self.now (reverse c.args.entries.now) c.in-Err.refusal
refused c =
    let done = c.loop-entry.yielded in
    let road = YieldsList-from_rev_slice c.args.entries.now (cc) in
    let turn = YieldsList-turn road done _ c.loop-entry.yielded_by _ _ c.in-Some.entry c.in-Some.is c.next.ensures.steps in
    let so_far = subst (λ (z : List (List ChangeOf)). Undone c.args.self.now z c.loop-entry.workspace) (YieldsList-so_far road done _ c.loop-entry.yielded_by) c.loop-entry.invariant in
    stuck_so c.args.self.now c.loop-entry.workspace (reverse c.args.entries.now) (length done) c.in-Some.entry.now turn.0 turn.1 so_far c.in-Err.refusal c.in-Err.ensures.err.0

pub returns-in-Err-clause-err : goal.returns-in-Err-clause-err
returns-in-Err-clause-err c = refused (goal.at.returns-in-Err-clause-err c).In-Err

pub returns-in-Err-clause-back : goal.returns-in-Err-clause-back
returns-in-Err-clause-back c = back_err c.statements_are_known.ensures c.args.self.now c.args.entries.now c.in-Err.refusal (refused (goal.at.returns-in-Err-clause-back c).In-Err)

pub returns-clause-back : goal.returns-clause-back
returns-clause-back c =
    let road = YieldsList-from_rev_slice c.args.entries.now (cc) in
    let end = YieldsList-end road c.loop-entry.yielded _ c.loop-entry.yielded_by _ _ c.in-None.is c.next.ensures.steps in
    back_ok c.statements_are_known.ensures c.args.self.now c.loop-entry.workspace c.args.entries.now (subst (λ (z : List (List ChangeOf)). Undone c.args.self.now z c.loop-entry.workspace) end.0 c.loop-entry.invariant)
