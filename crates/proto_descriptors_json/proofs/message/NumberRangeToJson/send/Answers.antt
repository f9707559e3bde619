use Rattle.proto_descriptors_json.proofs.Sending.{last, more, object_sent}
use Rattle.std.proofs.lemmas.Result.{on_ok_weaker}
use Rattle.proto_descriptors_json.proofs.message.NumberRangeToJson.send.Goals as goal

pub returns : goal.returns
returns g c =
    on_ok_weaker c.end_map.result (object_sent _ c.in_ok-begin_map.ensures
    (more c.in_ok-put.ensures
    (last c.in_ok-put-2.ensures)))
    c.end_map.ensures
