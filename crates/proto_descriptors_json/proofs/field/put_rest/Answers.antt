use Rattle.proto_descriptors_json.proofs.Sending.{last, more, option_map-option_map, valued}
use Rattle.proto_descriptors_json.specs.JsonText.{json_string}
use Rattle.std.proofs.Common.{string_bytes}
use Rattle.std.proofs.lemmas.Result.{on_ok_weaker}
use Rattle.proto_descriptors_json.proofs.field.put_rest.Goals as goal

pub returns : goal.returns
returns g c =
    let field = c.args.field.now in
    on_ok_weaker c.put_optional-2.result (λ sent.
    (more c.in_ok-put_optional.ensures
    (more c.in_ok-put_options.ensures
    (more c.in_ok-put_mark.ensures
    (more c.in_ok-put.ensures
    (last (valued (option_map-option_map json_string string_bytes field.type_name) sent)))))))
    c.put_optional-2.ensures
