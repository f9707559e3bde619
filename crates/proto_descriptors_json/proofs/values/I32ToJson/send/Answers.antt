use Rattle.proto_descriptors_json.proofs.Sending.{signed_sent}
use Rattle.std.proofs.lemmas.Result.{on_ok_weaker}
use Rattle.proto_descriptors_json.proofs.values.I32ToJson.send.Goals as goal

pub returns : goal.returns
returns g c = on_ok_weaker c.serialize.result (signed_sent _) c.serialize.ensures
