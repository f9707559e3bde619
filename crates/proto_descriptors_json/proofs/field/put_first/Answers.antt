use Rattle.proto_descriptors_json.proofs.Sending.{both, last, more, option_map-option_map, valued}
use Rattle.proto_descriptors_json.specs.JsonText.{json_string}
use Rattle.std.proofs.Common.{string_bytes}
use Rattle.std.proofs.lemmas.Result.{on_ok_weaker}
use Rattle.proto_descriptors_json.proofs.field.put_first.Goals as goal

pub returns : goal.returns
returns g c =
    let field = c.args.field.now in
    on_ok_weaker c.put-3.result (λ sent.
    (more (valued (option_map-option_map json_string string_bytes field.default_value) c.in_ok-put_optional.ensures)
    (both c.in_ok-put_role.ensures
    (more c.in_ok-put.ensures
    (more c.in_ok-put-2.ensures
    (last sent))))))
    c.put-3.ensures
