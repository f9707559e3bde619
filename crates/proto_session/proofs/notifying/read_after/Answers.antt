use Rattle.std.proofs.Common.{◌≡◌, ℕ, List, Some, None, option_map, sym, ap, subst, ◌∙◌, rules}
use Rattle.proto_base.specs.GivenFiles.{files_of_as}
use Rattle.proto_serving.specs.Serving.{texts}
use Rattle.proto_session_files.specs.Views.{home_view}
use Rattle.proto_session.specs.Steps.{AreFilesOf}
use Rattle.proto_session.proofs.ChangedSessions.{lost_after, lost_nowhere, lost_still, lost_there, read_there}
use Rattle.proto_session.proofs.notifying.read_after.Goals as goal

pub returns-in_default-clause-taken : goal.returns-in_default-clause-taken
returns-in_default-clause-taken g c =
    let holds = g.F.Folders.holds c.args.folders.now in
    let s = c.args.session.now in
    let none : None ≡ s.home = search rules in
    lost_after holds s c.args.change c.lost.result (lost_still (holds s.profile) s c.args.change c.requires.begun (lost_nowhere (holds s.profile) s.home none)) c.lost.ensures.change c.lost.ensures.said

pub returns-in-Ok-clause-taken : goal.returns-in-Ok-clause-taken
returns-in-Ok-clause-taken g c =
    let holds = g.F.Folders.holds c.args.folders.now in
    let s = c.args.session.now in
    let is : Some c.in-Some.home ≡ s.home = search rules in
    let are = subst (λ (f : List ℕ). AreFilesOf (holds s.profile f) (files_of_as s.profile c.in-Ok.files.items)) c.as_slice.ensures.value c.in-Ok.ensures.files in
    read_there holds s c.args.change c.with_disk.result (files_of_as s.profile c.in-Ok.files.items) (home_view c.in-Some.home) (texts c.new.result.items) c.requires.begun (sym (ap (option_map home_view) is)) are (c.with_disk.ensures holds) (ap texts c.new.ensures.items)

pub returns-in-Err-Store-clause-taken : goal.returns-in-Err-Store-clause-taken
returns-in-Err-Store-clause-taken g c =
    let holds = g.F.Folders.holds c.args.folders.now in
    let s = c.args.session.now in
    let is : Some c.in-Some.home ≡ s.home = search rules in
    let unknown_ = ap (holds s.profile) (sym c.as_slice.ensures.value) ∙ c.in-Err-Store.ensures.lost c.in-Err-Store.field-0-is in
    lost_after holds s c.args.change c.lost-in-Err-Store.result (lost_still (holds s.profile) s c.args.change c.requires.begun (lost_there (holds s.profile) s.home c.in-Some.home is unknown_)) c.lost-in-Err-Store.ensures.change c.lost-in-Err-Store.ensures.said
