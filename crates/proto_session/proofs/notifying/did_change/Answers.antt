use Rattle.std.proofs.Common.{◌≡◌, List, map, option_map, string_bytes, ap, sym, ◌∙◌, rules}
use Rattle.proto_base.specs.Texts.{Path, Text}
use Rattle.proto_messages.specs.Messages.{document_view}
use Rattle.proto_session_files.specs.Homes.{schema_of}
use Rattle.proto_session_files.specs.Views.{is_open, open_of}
use Rattle.proto_session_files.specs.declared.open_text.OpenText.{OpenText}
use Rattle.proto_session.specs.Sessions.{SessionOf, session_of}
use Rattle.proto_session.specs.Steps.{IsChangedAt}
use Rattle.proto_session.proofs.ChangedSessions.{changed_nowhere, changed_there, quiet_taken}
use Rattle.proto_session.proofs.notifying.did_change.Goals as goal

pub returns-in_default-clause-taken : goal.returns-in_default-clause-taken
returns-in_default-clause-taken c =
    let s = session_of c.args.session.now in
    let d = document_view c.args.document.now in
    let asked = schema_of s.home d.uri in
    let uri : d.uri ≡ c.as_str.result.now = search rules in
    let none = ap (schema_of s.home) uri ∙ (sym c.in_ok-path.ensures.path ∙ ap (option_map string_bytes) c.in_default.is) in
    quiet_taken (λ (new : SessionOf) (replies : List Text). IsChangedAt asked s d new replies) s c.quiet.result.change _ c.quiet.result.replies.items (c.quiet.ensures.change ∙ c.none.ensures) c.quiet.ensures.quiet (changed_nowhere s d asked none)

pub returns-then-not-is_open-clause-refused : goal.returns-then-not-is_open-clause-refused
returns-then-not-is_open-clause-refused c = λ _.
    let s = session_of c.args.session.now in
    let uri : (document_view c.args.document.now).uri ≡ c.as_str.result.now = search rules in
    let there = ap (schema_of s.home) uri ∙ (sym c.in_ok-path.ensures.path ∙ ap (option_map string_bytes) c.in-Some.is) in
    let path : string_bytes c.in-Some.path ≡ c.as_str-2.result.now = search rules in
    let opened = ap (λ (p : Path). is_open p s.opened) path ∙ (ap (λ (o : List OpenText). is_open c.as_str-2.result.now (map open_of o)) (sym c.as_slice.ensures.value) ∙ sym c.is_open.ensures) in
    (string_bytes c.in-Some.path, there, opened ∙ c.if-not-is_open.true)

pub returns-in-Ok-clause-taken : goal.returns-in-Ok-clause-taken
returns-in-Ok-clause-taken c =
    let s = session_of c.args.session.now in
    let d = document_view c.args.document.now in
    let asked = schema_of s.home d.uri in
    let uri : d.uri ≡ c.as_str.result.now = search rules in
    let there = ap (schema_of s.home) uri ∙ (sym c.in_ok-path.ensures.path ∙ ap (option_map string_bytes) c.in-Some.is) in
    let path : string_bytes c.in-Some.path ≡ c.as_str-2.result.now = search rules in
    let opened = ap (λ (p : Path). is_open p s.opened) path ∙ (ap (λ (o : List OpenText). is_open c.as_str-2.result.now (map open_of o)) (sym c.as_slice.ensures.value) ∙ sym c.is_open.ensures) in
    quiet_taken (λ (new : SessionOf) (replies : List Text). IsChangedAt asked s d new replies) s c.quiet-in-Ok.result.change c.in-Ok.change c.quiet-in-Ok.result.replies.items c.quiet-in-Ok.ensures.change c.quiet-in-Ok.ensures.quiet
    (changed_there c.args.session.now d (string_bytes c.in-Some.path) asked c.in-Ok.change there (opened ∙ c.if-not-is_open.false) c.in-Ok.ensures)
