use Rattle.std.proofs.Common.{ap, ◌∙◌}
use Rattle.serde_json.specs.View.{view}
use Rattle.proto_messages.specs.Reading.{both, document_position, uri_of}
use Rattle.proto_messages.proofs.fields.document_position.Goals as goal

pub returns : goal.returns
returns c =
    c.position_in.ensures ∙ ap (λ u. both document_position u c.position_at.result) c.in_ok-uri.ensures
    ∙ ap (both document_position (uri_of (view c.args.params.now))) c.position_at.ensures
