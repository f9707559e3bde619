use Rattle.std.proofs.Common.{◌≢◌, ◌+◌, List, map, take, sym, subst, refl, rules}
use Rattle.proto_edit.specs.Common.{asked, Run}
use Rattle.proto_edit_entries.specs.declared.refusal.Refusal.TheVariants as refusal
use Rattle.proto_edit.proofs.Chains.{Answer, run_accepted, run_refused, run_next}
use Rattle.proto_edit.proofs.workspace.Workspace.apply_all.Goals.{in-Ok, in-Err}
use Rattle.proto_edit.proofs.workspace.Workspace.apply_all.Goals as goal

pub loop-edit-preserved : goal.loop-edit-preserved
loop-edit-preserved c =
    let w = c.args.self.now in
    let i = c.loop-edit.edit-index in
    let to = c.make.new.self in
    let answer = c.match-make.answer in
    let edits = c.args.edits.now in
    let edit = c.edit-item.result in
    subst (λ (z : List Answer). Run w (map asked (take (i + 1) edits)) z to) (sym c.in-Ok-push.ensures.items)
    (run_next w c.loop-edit.workspace to edits i c.loop-edit.answers.items edit answer c.loop-edit-test.true c.edit-item.is c.loop-edit.invariant (elim c.match-make.branch [
      | in-Ok w ↦ run_accepted c.loop-edit.workspace (asked edit) answer w.in-Ok.entry to to w.answer-is refl w.in-Ok.ensures.ok
      | in-Err w ↦ (let ne : w.in-Err.refusal ≢ refusal.NoMemory = search rules in run_refused c.loop-edit.workspace (asked edit) answer w.in-Err.refusal to w.answer-is w.in-Err.ensures.err.1 w.in-Err.ensures.err.0 ne)
    ]))
