use Rattle.proto_descriptors_json.proofs.Sending.{text_sent}
use Rattle.std.proofs.lemmas.Result.{on_ok_weaker}
use Rattle.proto_descriptors_json.proofs.values.StringToJson.send.Goals as goal

pub returns : goal.returns
returns g c = on_ok_weaker c.serialize.result (text_sent _) c.serialize.ensures
