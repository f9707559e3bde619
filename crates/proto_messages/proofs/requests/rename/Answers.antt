use Rattle.std.proofs.Common.{ap, option_map, string_bytes, ◌∙◌}
use Rattle.serde_json.specs.View.{view}
use Rattle.proto_messages.specs.Messages.{rename}
use Rattle.proto_messages.specs.Reading.{both, document_position_of, or_invalid_params}
use Rattle.proto_messages.proofs.requests.rename.Goals as goal

pub returns : goal.returns
returns c =
    c.rename_of.ensures ∙ ap (λ a. or_invalid_params (both rename a (option_map string_bytes c.in_ok-name.name))) c.in_ok-at.ensures
    ∙ ap (λ n. or_invalid_params (both rename (document_position_of (view c.args.params.now)) n)) c.in_ok-name.ensures
