use Rattle.proto_descriptors_json.proofs.Sending.{object_sent}
use Rattle.std.proofs.lemmas.Result.{on_ok_weaker}
use Rattle.proto_descriptors_json.proofs.service.MethodDescriptorToJson.send.Goals as goal

pub returns : goal.returns
returns g c =
    on_ok_weaker c.end_map.result (object_sent _ c.in_ok-begin_map.ensures c.in_ok-put_members.ensures) c.end_map.ensures
