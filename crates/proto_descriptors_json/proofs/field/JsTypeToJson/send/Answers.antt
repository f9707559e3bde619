use Rattle.proto_descriptors_json.proofs.Sending.{name_sent}
use Rattle.std.proofs.lemmas.Result.{on_ok_weaker}
use Rattle.proto_descriptors_json.proofs.field.JsTypeToJson.send.Goals as goal

pub returns : goal.returns
returns g c = on_ok_weaker c.str.result (name_sent c.name.ensures) c.str.ensures
