use Rattle.std.proofs.Common.{◌≡◌, List, map, string_bytes, ap, ◌∙◌, rules}
use Rattle.proto_messages.specs.Messages.{document_view}
use Rattle.proto_session_files.specs.Views.{open_of, with_open}
use Rattle.proto_session_files.specs.declared.open_text.OpenText.{OpenText}
use Rattle.proto_session.specs.Sessions.{session_of}
use Rattle.proto_session.specs.Steps.{text_at}
use Rattle.proto_session.proofs.ChangedSessions.{opened_texts}
use Rattle.proto_session.proofs.notifying.opened_at.Goals as goal

pub returns : goal.returns
returns c =
    let s = c.args.session.now in
    let d = document_view c.args.document.now in
    let path = string_bytes c.args.path in
    let uri : string_bytes c.in_ok-from_str.field-0 ≡ d.uri = search rules in
    let text : string_bytes c.in_ok-from_str-2.field-0 ≡ d.text = search rules in
    record {
      texts = c.in_ok-opened.opened;
      are_opened = c.in_ok-opened.ensures
          ∙ (ap (λ (o : List OpenText). with_open (record (text_at path d) { uri = string_bytes c.in_ok-from_str.field-0; text = string_bytes c.in_ok-from_str-2.field-0 }) (map open_of o)) c.as_slice.ensures.value
          ∙ opened_texts path d (string_bytes c.in_ok-from_str.field-0) (string_bytes c.in_ok-from_str-2.field-0) (session_of s).opened uri text);
      change = c.of_opened.ensures;
    }
