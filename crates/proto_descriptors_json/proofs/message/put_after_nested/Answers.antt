use Rattle.proto_descriptors.proofs.Common.{map_both, oneof_desc}
use Rattle.proto_descriptors.specs.declared.message.MessageDescriptor.{out-MessageDescriptor}
use Rattle.proto_descriptors_json.proofs.Sending.{last, listed, sliced, more}
use Rattle.proto_descriptors_json.specs.Common.{oneof_text, json_string}
use Rattle.std.proofs.Common.{string_bytes}
use Rattle.std.proofs.lemmas.Result.{on_ok_weaker}
use Rattle.proto_descriptors_json.proofs.message.put_after_nested.Goals as goal

pub returns : goal.returns
returns g c =
    let message = out-MessageDescriptor c.args.message.now in
    on_ok_weaker c.put_list-3.result (λ sent.
    (more (listed (map_both oneof_text oneof_desc message.oneof_decl.items) (sliced _ c.deref.ensures.value c.in_ok-put_list.ensures))
    (more c.in_ok-put_options.ensures
    (more (listed (map_both json_string string_bytes message.reserved_name.items) (sliced _ c.deref-2.ensures.value c.in_ok-put_list-2.ensures))
    (last (sliced _ c.deref-3.ensures.value sent))))))
    c.put_list-3.ensures
