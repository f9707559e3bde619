use Rattle.std.proofs.Common.{ap, option_map, string_bytes, ◌∙◌}
use Rattle.serde_json.specs.View.{view}
use Rattle.proto_messages.specs.Reading.{document, three, uri_of}
use Rattle.proto_messages.proofs.notifications.document.Goals as goal

pub returns : goal.returns
returns c =
    c.document_of.ensures ∙ ap (λ u. three document u c.natural_at.result (option_map string_bytes c.args.text)) c.in_ok-uri.ensures
    ∙ ap (λ v. three document (uri_of (view c.args.params.now)) v (option_map string_bytes c.args.text)) c.natural_at.ensures
