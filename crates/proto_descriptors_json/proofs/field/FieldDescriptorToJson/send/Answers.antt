use Rattle.proto_descriptors_json.proofs.Sending.{both, object_sent}
use Rattle.std.proofs.lemmas.Result.{on_ok_weaker}
use Rattle.proto_descriptors_json.proofs.field.FieldDescriptorToJson.send.Goals as goal

pub returns : goal.returns
returns g c =
    on_ok_weaker c.end_map.result (object_sent _ c.in_ok-begin_map.ensures (both c.in_ok-put_first.ensures c.in_ok-put_rest.ensures)) c.end_map.ensures
