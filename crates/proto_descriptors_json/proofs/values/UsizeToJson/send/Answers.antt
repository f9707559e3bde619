use Rattle.proto_descriptors_json.proofs.Sending.{unsigned_sent}
use Rattle.std.proofs.lemmas.Result.{on_ok_weaker}
use Rattle.proto_descriptors_json.proofs.values.UsizeToJson.send.Goals as goal

pub returns : goal.returns
returns g c = on_ok_weaker c.serialize.result (unsigned_sent _) c.serialize.ensures
