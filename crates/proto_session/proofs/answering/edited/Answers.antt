use Rattle.std.proofs.Common.{◌≡◌, ℕ, List, Some, None, option_map, sym, ap, subst, ◌∙◌, rules}
use Rattle.proto_base.specs.GivenFiles.{files_of_as}
use Rattle.proto_messages.specs.Messages.{request_view}
use Rattle.proto_session_files.specs.Views.{home_view}
use Rattle.proto_session.specs.Changes.{changed}
use Rattle.proto_session.specs.Sessions.{SessionOf, session_of}
use Rattle.proto_session.specs.Steps.{AreFilesOf, IsReread}
use Rattle.proto_session.proofs.ChangedSessions.{lost_nowhere, lost_there}
use Rattle.proto_session.proofs.RequestTurns.{edited_lost, edited_read}
use Rattle.proto_session.proofs.answering.edited.Goals as goal

pub returns-in_default : goal.returns-in_default
returns-in_default g c =
    let holds = g.F.Folders.holds c.args.folders.now in
    let s = c.args.session.now in
    let none : None ≡ s.home = search rules in
    edited_lost holds s (request_view c.args.asked.now) c.failed.result (lost_nowhere (holds s.profile) s.home none) c.failed.ensures

pub returns-in-Ok : goal.returns-in-Ok
returns-in-Ok g c =
    let holds = g.F.Folders.holds c.args.folders.now in
    let s = c.args.session.now in
    let change = c.with_disk-change.result in
    let is : Some c.in-Some.home ≡ s.home = search rules in
    let kept = ap (changed (session_of s)) c.none.ensures in
    let home = ap (λ (x : SessionOf). x.home) kept ∙ sym (ap (option_map home_view) is) in
    let are = subst (λ (f : List ℕ). AreFilesOf (holds s.profile f) (files_of_as s.profile c.in-Ok.files.items)) c.as_slice.ensures.value c.in-Ok.ensures.files in
    edited_read holds s (request_view c.args.asked.now) change c.edited_after.result
    (subst (λ (x : SessionOf). IsReread holds x (changed (session_of s) change)) kept (c.with_disk-change.ensures holds (home_view c.in-Some.home) home are))
    c.edited_after.ensures.change c.edited_after.ensures.reply

pub returns-in-Err-Store : goal.returns-in-Err-Store
returns-in-Err-Store g c =
    let holds = g.F.Folders.holds c.args.folders.now in
    let s = c.args.session.now in
    let is : Some c.in-Some.home ≡ s.home = search rules in
    let unknown_ = ap (holds s.profile) (sym c.as_slice.ensures.value) ∙ c.in-Err-Store.ensures.lost c.in-Err-Store.field-0-is in
    edited_lost holds s (request_view c.args.asked.now) c.failed-in-Err-Store.result (lost_there (holds s.profile) s.home c.in-Some.home is unknown_) c.failed-in-Err-Store.ensures
