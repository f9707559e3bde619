use Rattle.std.proofs.Common.{◌≡◌, List, map, option_map, string_bytes, ap, sym, ◌∙◌, rules}
use Rattle.std.proofs.lemmas.Result.{IfOk-weaker}
use Rattle.proto_base.specs.Texts.{Path, Text}
use Rattle.proto_serving.specs.Serving.{texts}
use Rattle.proto_session_files.specs.Homes.{schema_of}
use Rattle.proto_session_files.specs.Views.{closed, open_of}
use Rattle.proto_session_files.specs.declared.open_text.OpenText.{OpenText}
use Rattle.proto_session.specs.Changes.{changed}
use Rattle.proto_session.specs.Sessions.{SessionOf, session_of}
use Rattle.proto_session.specs.Steps.{IsClosedAt}
use Rattle.proto_session.specs.declared.changing.Change.{Change}
use Rattle.proto_session.proofs.ChangedSessions.{closed_nowhere, closed_there, quiet_taken}
use Rattle.proto_session.proofs.notifying.did_close.Goals as goal

pub returns-in_default-clause-taken : goal.returns-in_default-clause-taken
returns-in_default-clause-taken g c =
    let holds = g.F.Folders.holds c.args.folders.now in
    let s = session_of c.args.session.now in
    let asked = schema_of s.home c.args.uri.now in
    let none = sym c.in_ok-path.ensures.path ∙ ap (option_map string_bytes) c.in_default.is in
    quiet_taken (λ (new : SessionOf) (replies : List Text). IsClosedAt asked holds s new replies) s c.quiet.result.change _ c.quiet.result.replies.items (c.quiet.ensures.change ∙ c.none.ensures) c.quiet.ensures.quiet (closed_nowhere holds s asked none)

pub read_after-requires-clause-disk : goal.read_after-requires-clause-disk
read_after-requires-clause-disk g c = ap (λ (x : Change). x.disk) c.of_opened-change.ensures

pub read_after-requires-clause-begun : goal.read_after-requires-clause-begun
read_after-requires-clause-begun g c = ap (λ (x : Change). x.begun) c.of_opened-change.ensures

pub returns-in-Ok-clause-taken : goal.returns-in-Ok-clause-taken
returns-in-Ok-clause-taken g c =
    let holds = g.F.Folders.holds c.args.folders.now in
    let s = session_of c.args.session.now in
    let asked = schema_of s.home c.args.uri.now in
    let there = sym c.in_ok-path.ensures.path ∙ ap (option_map string_bytes) c.in-Some.is in
    let path : c.as_str.result.now ≡ string_bytes c.in-Some.path = search rules in
    let opened = c.in-Ok.ensures ∙ (ap (λ (p : Path). closed p (map open_of c.as_slice.result.now)) path ∙ ap (λ (o : List OpenText). closed (string_bytes c.in-Some.path) (map open_of o)) c.as_slice.ensures.value) in
    IfOk-weaker c.read_after.result _ _ (λ o t. closed_there holds c.args.session.now (string_bytes c.in-Some.path) asked c.of_opened-change.result (changed s o.change) (texts o.replies.items) there (record { texts = c.in-Ok.opened; are_opened = opened; change = c.of_opened-change.ensures }) t) c.read_after.ensures.taken
