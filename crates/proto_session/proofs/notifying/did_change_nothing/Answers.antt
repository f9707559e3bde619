use Rattle.std.proofs.Common.{◌≡◌, List, map, option_map, string_bytes, ap, sym, ◌∙◌, rules}
use Rattle.proto_base.specs.Texts.{Path, Text}
use Rattle.proto_session_files.specs.Homes.{schema_of}
use Rattle.proto_session_files.specs.Views.{open_of, with_version}
use Rattle.proto_session_files.specs.declared.open_text.OpenText.{OpenText}
use Rattle.proto_session.specs.Sessions.{SessionOf, session_of}
use Rattle.proto_session.specs.Steps.{IsRenumberedAt}
use Rattle.proto_session.proofs.ChangedSessions.{quiet_taken, renumbered_nowhere, renumbered_there}
use Rattle.proto_session.proofs.notifying.did_change_nothing.Goals as goal

pub returns-in_default-clause-taken : goal.returns-in_default-clause-taken
returns-in_default-clause-taken c =
    let s = session_of c.args.session.now in
    let asked = schema_of s.home c.args.uri.now in
    let none = sym c.in_ok-path.ensures.path ∙ ap (option_map string_bytes) c.in_default.is in
    quiet_taken (λ (new : SessionOf) (replies : List Text). IsRenumberedAt asked s c.args.version new replies) s c.quiet.result.change _ c.quiet.result.replies.items (c.quiet.ensures.change ∙ c.none.ensures) c.quiet.ensures.quiet (renumbered_nowhere s c.args.version asked none)

pub returns-in-Ok-clause-taken : goal.returns-in-Ok-clause-taken
returns-in-Ok-clause-taken c =
    let s = session_of c.args.session.now in
    let asked = schema_of s.home c.args.uri.now in
    let there = sym c.in_ok-path.ensures.path ∙ ap (option_map string_bytes) c.in-Some.is in
    let path : c.as_str.result.now ≡ string_bytes c.in-Some.path = search rules in
    let opened = c.in-Ok.ensures ∙ (ap (λ (p : Path). with_version p c.args.version (map open_of c.as_slice.result.now)) path ∙ ap (λ (o : List OpenText). with_version (string_bytes c.in-Some.path) c.args.version (map open_of o)) c.as_slice.ensures.value) in
    quiet_taken (λ (new : SessionOf) (replies : List Text). IsRenumberedAt asked s c.args.version new replies) s c.quiet-in-Ok.result.change c.of_opened.result c.quiet-in-Ok.result.replies.items c.quiet-in-Ok.ensures.change c.quiet-in-Ok.ensures.quiet
    (renumbered_there c.args.session.now c.args.version (string_bytes c.in-Some.path) asked c.of_opened.result there (record { texts = c.in-Ok.opened; are_opened = opened; change = c.of_opened.ensures }))
