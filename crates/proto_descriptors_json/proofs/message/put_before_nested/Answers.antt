use Rattle.proto_descriptors.proofs.Common.{map_both, enum_desc, field_desc}
use Rattle.proto_descriptors.specs.declared.message.MessageDescriptor.{out-MessageDescriptor}
use Rattle.proto_descriptors_json.proofs.Sending.{last, listed, sliced, more}
use Rattle.proto_descriptors_json.specs.DescriptorText.{enum_text, field_text}
use Rattle.std.proofs.lemmas.Result.{on_ok_weaker}
use Rattle.proto_descriptors_json.proofs.message.put_before_nested.Goals as goal

pub returns : goal.returns
returns g c =
    let message = out-MessageDescriptor c.args.message.now in
    on_ok_weaker c.put.result (λ sent.
    (more (listed (map_both enum_text enum_desc message.enum_type.items) (sliced _ c.deref.ensures.value c.in_ok-put_list.ensures))
    (more (listed (map_both field_text field_desc message.extension.items) (sliced _ c.deref-2.ensures.value c.in_ok-put_list-2.ensures))
    (more (sliced _ c.deref-3.ensures.value c.in_ok-put_list-3.ensures)
    (more (listed (map_both field_text field_desc message.field.items) (sliced _ c.deref-4.ensures.value c.in_ok-put_list-4.ensures))
    (last sent))))))
    c.put.ensures
