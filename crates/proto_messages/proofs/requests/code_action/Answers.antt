use Rattle.std.proofs.Common.{ap, ◌∙◌}
use Rattle.serde_json.specs.View.{view}
use Rattle.proto_messages.specs.Messages.{code_action}
use Rattle.proto_messages.specs.Reading.{both, or_invalid_params, uri_of}
use Rattle.proto_messages.proofs.requests.code_action.Goals as goal

pub returns : goal.returns
returns c =
    c.actions_in.ensures ∙ ap (λ u. or_invalid_params (both code_action u c.range_at.result)) c.in_ok-uri.ensures
    ∙ ap (λ r. or_invalid_params (both code_action (uri_of (view c.args.params.now)) r)) c.range_at.ensures
