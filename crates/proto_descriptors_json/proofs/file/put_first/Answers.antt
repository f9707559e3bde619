use Rattle.proto_descriptors.proofs.Common.{map_both, enum_desc, field_desc}
use Rattle.proto_descriptors.specs.Views.{messages_desc}
use Rattle.proto_descriptors.specs.declared.message.MessageDescriptor.{MessageDescriptor}
use Rattle.proto_descriptors_json.proofs.Sending.{last, listed, sliced, more}
use Rattle.proto_descriptors_json.specs.Common.{enum_text, message_texts, json_string}
use Rattle.proto_descriptors_json.specs.DescriptorText.{field_text}
use Rattle.std.proofs.Common.{List, ap, string_bytes}
use Rattle.std.proofs.lemmas.Result.{on_ok_weaker}
use Rattle.proto_descriptors_json.proofs.file.put_first.Goals as goal

pub returns : goal.returns
returns g c =
    let file = c.args.file.now in
    on_ok_weaker c.put.result (λ sent.
    (more (listed (map_both json_string string_bytes file.dependency.items) (sliced _ c.deref.ensures.value c.in_ok-put_list.ensures))
    (more (listed (map_both enum_text enum_desc file.enum_type.items) (sliced _ c.deref-2.ensures.value c.in_ok-put_list-2.ensures))
    (more (listed (map_both field_text field_desc file.extension.items) (sliced _ c.deref-3.ensures.value c.in_ok-put_list-3.ensures))
    (more (listed (ap (λ (ms : List MessageDescriptor). message_texts (messages_desc ms)) c.deref-4.ensures.value) c.in_ok-put_messages.ensures)
    (last sent))))))
    c.put.ensures
