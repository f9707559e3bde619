use Rattle.proto_descriptors_json.proofs.Sending.{truth_sent}
use Rattle.std.proofs.lemmas.Result.{on_ok_weaker}
use Rattle.proto_descriptors_json.proofs.values.BoolToJson.send.Goals as goal

pub returns : goal.returns
returns g c = on_ok_weaker c.serialize.result (truth_sent _) c.serialize.ensures
