use Rattle.std.proofs.Common.{ap, ◌∙◌}
use Rattle.serde_json.specs.View.{view}
use Rattle.proto_messages.specs.Messages.{references}
use Rattle.proto_messages.specs.Reading.{both, document_position_of, or_invalid_params}
use Rattle.proto_messages.proofs.requests.references.Goals as goal

pub returns : goal.returns
returns c =
    c.references_of.ensures ∙ ap (λ a. or_invalid_params (both references a c.bool_at.result)) c.in_ok-at.ensures
    ∙ ap (λ i. or_invalid_params (both references (document_position_of (view c.args.params.now)) i)) c.bool_at.ensures
