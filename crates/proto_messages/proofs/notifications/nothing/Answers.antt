use Rattle.std.proofs.Common.{ap, ◌∙◌}
use Rattle.serde_json.specs.View.{view}
use Rattle.proto_messages.specs.Messages.{did_change_nothing}
use Rattle.proto_messages.specs.Reading.{both, or_malformed, uri_of}
use Rattle.proto_messages.proofs.notifications.nothing.Goals as goal

pub returns : goal.returns
returns c =
    c.unchanged.ensures ∙ ap (λ u. or_malformed (both did_change_nothing u c.natural_at.result)) c.in_ok-uri.ensures
    ∙ ap (λ v. or_malformed (both did_change_nothing (uri_of (view c.args.params.now)) v)) c.natural_at.ensures
