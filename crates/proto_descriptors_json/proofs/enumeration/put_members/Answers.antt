use Rattle.proto_descriptors.proofs.Common.{map_both, enum_value_desc}
use Rattle.proto_descriptors_json.proofs.Sending.{last, listed, sliced, more}
use Rattle.proto_descriptors_json.specs.Common.{enum_value_text, json_string}
use Rattle.std.proofs.Common.{string_bytes}
use Rattle.std.proofs.lemmas.Result.{on_ok_weaker}
use Rattle.proto_descriptors_json.proofs.enumeration.put_members.Goals as goal

pub returns : goal.returns
returns g c =
    let enumeration = c.args.enumeration.now in
    on_ok_weaker c.put_list-3.result (λ sent.
    (more c.in_ok-put.ensures
    (more c.in_ok-put_options.ensures
    (more (listed (map_both json_string string_bytes enumeration.reserved_name.items) (sliced _ c.deref.ensures.value c.in_ok-put_list.ensures))
    (more (sliced _ c.deref-2.ensures.value c.in_ok-put_list-2.ensures)
    (last (listed (map_both enum_value_text enum_value_desc enumeration.value.items) (sliced _ c.deref-3.ensures.value sent))))))))
    c.put_list-3.ensures
