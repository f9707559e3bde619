use Rattle.std.proofs.Common.{◌≡◌, List, option_map, string_bytes, ap, sym, ◌∙◌, rules}
use Rattle.std.proofs.lemmas.Result.{IfOk-weaker}
use Rattle.proto_base.specs.Texts.{Text}
use Rattle.proto_messages.specs.Messages.{document_view}
use Rattle.proto_serving.specs.Serving.{texts}
use Rattle.proto_session_files.specs.Homes.{schema_of}
use Rattle.proto_session.specs.Changes.{changed}
use Rattle.proto_session.specs.Sessions.{SessionOf, session_of}
use Rattle.proto_session.specs.Steps.{IsOpenedAt}
use Rattle.proto_session.specs.declared.changing.Change.{Change}
use Rattle.proto_session.proofs.ChangedSessions.{opened_nowhere, opened_there, quiet_taken}
use Rattle.proto_session.proofs.notifying.did_open.Goals as goal

pub returns-in_default-clause-taken : goal.returns-in_default-clause-taken
returns-in_default-clause-taken g c =
    let holds = g.F.Folders.holds c.args.folders.now in
    let s = session_of c.args.session.now in
    let d = document_view c.args.document.now in
    let asked = schema_of s.home d.uri in
    let uri : d.uri ≡ c.as_str.result.now = search rules in
    let none = ap (schema_of s.home) uri ∙ (sym c.in_ok-path.ensures.path ∙ ap (option_map string_bytes) c.in_default.is) in
    quiet_taken (λ (new : SessionOf) (replies : List Text). IsOpenedAt asked holds s d new replies) s c.quiet.result.change _ c.quiet.result.replies.items (c.quiet.ensures.change ∙ c.none.ensures) c.quiet.ensures.quiet (opened_nowhere holds s d asked none)

pub read_after-requires-clause-disk : goal.read_after-requires-clause-disk
read_after-requires-clause-disk g c = ap (λ (x : Change). x.disk) c.in-Ok.ensures.change

pub read_after-requires-clause-begun : goal.read_after-requires-clause-begun
read_after-requires-clause-begun g c = ap (λ (x : Change). x.begun) c.in-Ok.ensures.change

pub returns-in-Ok-clause-taken : goal.returns-in-Ok-clause-taken
returns-in-Ok-clause-taken g c =
    let holds = g.F.Folders.holds c.args.folders.now in
    let s = session_of c.args.session.now in
    let d = document_view c.args.document.now in
    let asked = schema_of s.home d.uri in
    let uri : d.uri ≡ c.as_str.result.now = search rules in
    let there = ap (schema_of s.home) uri ∙ (sym c.in_ok-path.ensures.path ∙ ap (option_map string_bytes) c.in-Some.is) in
    IfOk-weaker c.read_after.result _ _ (λ o t. opened_there holds c.args.session.now d (string_bytes c.in-Some.path) asked c.in-Ok.change (changed s o.change) (texts o.replies.items) there c.in-Ok.ensures t) c.read_after.ensures.taken
