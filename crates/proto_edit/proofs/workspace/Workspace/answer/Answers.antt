use Rattle.std.proofs.Common.{List, subst}
use Rattle.proto_edit.specs.Common.{asked}
use Rattle.proto_edit_entries.proofs.Common.{ChangeOf, IsPut}
use Rattle.proto_edit.proofs.Chains.{step_made}
use Rattle.proto_edit.proofs.EditSteps.{edits_are_made}
use Rattle.proto_edit.proofs.OneAnswer.{changes_once}
use Rattle.proto_edit.proofs.workspace.Workspace.answer.Goals as goal

pub returns-clause-ok : goal.returns-clause-ok
returns-clause-ok c =
    let w = c.args.self.now in
    let e = asked c.args.edit.now in
    let laws = c.statements_are_known.ensures in
    let ok = c.in_ok-entry.ensures.ok in
    let m = edits_are_made laws w e c.files.ensures.compiled ok.0 in
    let same = changes_once laws w e m.0 c.in_ok-entry.entry c.files.ensures.compiled m.1 ok.1 in
    (m.3, step_made laws w e c.in_ok-entry.entry m.3 c.files.ensures.compiled ok (subst (λ (z : List ChangeOf). IsPut w z m.3) same m.4))
