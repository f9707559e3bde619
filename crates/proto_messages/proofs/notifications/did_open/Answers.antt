use Rattle.std.proofs.Common.{option_map, ap, ◌∙◌}
use Rattle.serde_json.specs.View.{view}
use Rattle.proto_messages.specs.Messages.{did_open}
use Rattle.proto_messages.specs.Reading.{document_of, or_malformed}
use Rattle.proto_messages.proofs.notifications.did_open.Goals as goal

pub returns : goal.returns
returns c =
    c.opened.ensures ∙ ap (λ d. or_malformed (option_map did_open d)) c.in_ok-document.ensures
    ∙ ap (λ t. or_malformed (option_map did_open (document_of (view c.args.params.now) t))) c.in_ok-text.ensures
