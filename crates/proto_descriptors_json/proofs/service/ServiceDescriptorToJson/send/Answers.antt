use Rattle.proto_descriptors.proofs.Common.{map_both, method_desc}
use Rattle.proto_descriptors_json.proofs.Sending.{last, listed, sliced, more, object_sent}
use Rattle.proto_descriptors_json.specs.DescriptorText.{method_text}
use Rattle.std.proofs.lemmas.Result.{on_ok_weaker}
use Rattle.proto_descriptors_json.proofs.service.ServiceDescriptorToJson.send.Goals as goal

pub returns : goal.returns
returns g c =
    let service = c.args.self.now in
    on_ok_weaker c.end_map.result (object_sent _ c.in_ok-begin_map.ensures
    (more (listed (map_both method_text method_desc service.method.items) (sliced _ c.deref.ensures.value c.in_ok-put_list.ensures))
    (more c.in_ok-put.ensures
    (last c.in_ok-put_options.ensures))))
    c.end_map.ensures
