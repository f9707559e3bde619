use Rattle.std.proofs.Common.{◌≡◌, ◌≤◌, ◌++◌, List, Option, append-nil, ap, length, map, option_to_list, subst, sym, ◌∙◌, arith}
use Rattle.proto_base.proofs.Common.{Vec}
use Rattle.proto_lint_names.proofs.Common.{finding_of}
use Rattle.proto_lint_names.specs.declared.finding.Finding.{Finding}
use Rattle.proto_messages.specs.declared.results.CodeAction.{CodeAction}
use Rattle.proto_session_files.specs.Views.{view_at}
use Rattle.proto_session_replies.specs.Edits.{AreUnusedImports}
use Rattle.proto_session_replies.proofs.OfferLists.{offers_begin, offers_end, offers_more}
use Rattle.proto_session_replies.proofs.offering.actions_at.Goals as goal
use Rattle.proto_session_replies.proofs.offering.actions_at.Goals.{in-Some+in_ok-push, in_default}

pub loop-finding-init : goal.loop-finding-init
loop-finding-init c =
    let a = c.in_ok-add_deletion.ensures in
    offers_begin (view_at c.args.view.now) c.args.workspace.now c.args.spot c.args.range a.0 c.new-actions.result.items c.add_deletion.new.actions.items a.2 c.new-actions.ensures.items a.1 a.3 a.4

pub loop-finding-preserved : goal.loop-finding-preserved
loop-finding-preserved c =
    let a = c.in_ok-action.ensures in
    let before = c.loop-finding.actions.items in
    let grown : c.match-branch-4.actions.items ≡ before ++ option_to_list c.in_ok-action.field-0 = elim c.match-branch-4.branch [
      | in-Some+in_ok-push w ↦ ap (λ (v : Vec CodeAction). v.items) w.actions-is ∙ (w.in_ok-push.ensures.items ∙ ap (λ (o : Option CodeAction). before ++ option_to_list o) (sym w.in-Some.is))
      | in_default w ↦ ap (λ (v : Vec CodeAction). v.items) w.actions-is ∙ (sym (append-nil before) ∙ ap (λ (o : Option CodeAction). before ++ option_to_list o) (sym w.in_default.is))
    ] in
    offers_more (view_at c.args.view.now) c.args.workspace.now c.args.spot c.args.range c.as_slice-finding-items.result.now c.loop-finding.finding-index c.finding-item.result a.0 before c.match-branch-4.actions.items (option_to_list c.in_ok-action.field-0) c.loop-finding-test.true c.finding-item.is c.loop-finding.invariant a.1 grown a.2

pub returns : goal.returns
returns c =
    let xs = c.as_slice-finding-items.result.now in
    let end : length xs ≤ c.loop-finding.finding-index = omega (arith, c.loop-finding-test.false) in
    let unused = subst (λ (fs : List Finding). AreUnusedImports c.args.workspace.now (map finding_of fs)) (sym c.as_slice-finding-items.ensures.value) c.in_ok-unused.ensures in
    offers_end (view_at c.args.view.now) c.args.workspace.now c.args.spot c.args.range xs c.loop-finding.finding-index c.loop-finding.actions.items end unused c.loop-finding.invariant
