use Rattle.proto_descriptors.proofs.Common.{map_both, service_desc}
use Rattle.proto_descriptors_json.proofs.Sending.{last, listed, sliced, more, option_map-option_map, valued}
use Rattle.proto_descriptors_json.specs.Common.{service_text, json_string}
use Rattle.std.proofs.Common.{string_bytes}
use Rattle.std.proofs.lemmas.Result.{on_ok_weaker}
use Rattle.proto_descriptors_json.proofs.file.put_rest.Goals as goal

pub returns : goal.returns
returns g c =
    let file = c.args.file.now in
    on_ok_weaker c.put_list-3.result (λ sent.
    (more c.in_ok-put_options.ensures
    (more (valued (option_map-option_map json_string string_bytes file.package) c.in_ok-put_optional.ensures)
    (more (sliced _ c.deref.ensures.value c.in_ok-put_list.ensures)
    (more (listed (map_both service_text service_desc file.service.items) (sliced _ c.deref-2.ensures.value c.in_ok-put_list-2.ensures))
    (more c.in_ok-put_syntax.ensures
    (last (sliced _ c.deref-3.ensures.value sent))))))))
    c.put_list-3.ensures
