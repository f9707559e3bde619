use Rattle.std.proofs.Common.{List, map, option_map, ap, refl, subst, sym, ◌∙◌}
use Rattle.proto_base.specs.GivenFiles.{files_of_as}
use Rattle.proto_base.specs.declared.profile.Profile.{Profile}
use Rattle.proto_messages.specs.Messages.{request_view}
use Rattle.proto_session_files.specs.Views.{ViewOf, home_view, open_of, seen_over}
use Rattle.proto_session_files.specs.declared.open_text.OpenText.{OpenText}
use Rattle.proto_session_replies.specs.declared.reply.Reply.{Reply}
use Rattle.proto_session.specs.Answering.{IsNameReply}
use Rattle.proto_session.specs.Sessions.{session_of, view_of}
use Rattle.proto_session.proofs.SeenSessions.{copied_home, view_is}
use Rattle.proto_session.proofs.answering.named.Goals as goal

pub returns-clause-reply : goal.returns-clause-reply
returns-clause-reply c =
    let s = c.args.session.now in
    let asked = request_view c.args.asked.now in
    let home = copied_home c.as_ref.result (λ h. h.now) ∙ ap (option_map home_view) c.as_ref.ensures.value in
    let laid = λ (p : Profile). c.in_ok-files.ensures p ∙ ap (λ (o : List OpenText). seen_over p (files_of_as p c.as_slice.result.now) (map open_of o)) (c.as_slice-2.ensures.value ∙ sym c.as_slice-3.ensures.value) in
    let seen = view_is (session_of s) _ s.encoding c.as_slice.result.now c.in_ok-files.files.items c.as_slice-4.result.now c.as_slice-3.result.now
    home refl (ap (files_of_as s.profile) c.as_slice.ensures.value) (ap (map open_of) c.as_slice-3.ensures.value) laid c.as_slice-4.ensures.value in
    subst (λ (r : Reply). IsNameReply (view_of (session_of s)) asked r) (sym c.unchanged.ensures.reply)
    (subst (λ (v : ViewOf). IsNameReply v asked c.in_ok-reply.reply) seen c.in_ok-reply.ensures)
