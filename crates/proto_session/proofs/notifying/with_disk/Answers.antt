use Rattle.std.proofs.Common.{ap, sym, ◌∙◌}
use Rattle.proto_base.specs.GivenFiles.{files_of, files_of_as}
use Rattle.proto_session_files.proofs.InLanguage.{all_in, same_given}
use Rattle.proto_session.proofs.ChangedSessions.{reread_new, reread_same}
use Rattle.proto_session.proofs.notifying.with_disk.Goals as goal

pub returns-then-are_same : goal.returns-then-are_same
returns-then-are_same c = λ holds home is are.
    (let s = c.args.session.now in
    let same = ap files_of (sym c.as_slice.ensures.value) ∙ (c.are_same.ensures c.if-are_same.true ∙ ap files_of c.as_slice-2.ensures.value) in
    reread_same holds s c.args.change (files_of_as s.profile c.args.files.items) c.requires (same_given s.profile s.disk.items c.args.files.items same) (all_in s.profile c.args.files.items) home is are)

pub returns : goal.returns
returns c = λ holds home is are. reread_new holds c.args.session.now c.args.change c.args.files home is are
