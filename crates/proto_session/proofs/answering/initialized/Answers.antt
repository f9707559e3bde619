use Rattle.std.proofs.Common.{List, ℕ, Option, option_map, string_bytes, ap, ◌∙◌}
use Rattle.proto_messages.specs.declared.results.Answer.TheVariants as answer
use Rattle.proto_positions.specs.declared.encoding.Encoding.{Encoding}
use Rattle.proto_session_files.specs.Homes.{home_of}
use Rattle.proto_session_replies.specs.declared.reply.Reply.TheVariants.{Result}
use Rattle.proto_session.specs.Steps.{sent_encoding}
use Rattle.proto_session.proofs.RequestTurns.{begun_is}
use Rattle.proto_session.proofs.answering.initialized.Goals as goal

pub returns : goal.returns
returns c =
    let s = c.args.session.now in
    let root = option_map string_bytes c.args.root.now in
    let found = c.in_ok-home.ensures ∙ (ap (λ (w : Option (List ℕ)). home_of w (option_map (λ u. u.now) c.as_text-2.result)) c.as_text.ensures ∙ ap (home_of (option_map string_bytes s.word)) c.as_text-2.ensures) in (
      begun_is s c.of_phase-change.result c.in_ok-home.home c.agreed-encoding.result root c.args.offers_utf8 c.of_phase-change.ensures found c.agreed-encoding.ensures,
      ap (λ e. Result (answer.Capabilities e)) c.sent_encoding.ensures ∙ ap (λ (e : Encoding). Result (answer.Capabilities (sent_encoding e))) c.agreed-encoding.ensures,
    )
