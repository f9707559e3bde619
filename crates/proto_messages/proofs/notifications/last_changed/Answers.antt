use Rattle.std.proofs.Common.{ap, option_map, ◌∙◌}
use Rattle.serde_json.specs.View.{view}
use Rattle.proto_messages.specs.Messages.{did_change}
use Rattle.proto_messages.specs.Reading.{document_of, or_malformed}
use Rattle.proto_messages.proofs.notifications.last_changed.Goals as goal

pub returns : goal.returns
returns c =
    c.changed_to.ensures ∙ ap (λ d. or_malformed (option_map did_change d)) c.in_ok-document.ensures
    ∙ ap (λ t. or_malformed (option_map did_change (document_of (view c.args.params.now) t))) c.in_ok-text.ensures
