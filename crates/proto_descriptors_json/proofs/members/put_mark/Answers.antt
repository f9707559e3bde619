use Rattle.proto_descriptors_json.proofs.Sending.{valued}
use Rattle.std.proofs.lemmas.Result.{on_ok_weaker}
use Rattle.proto_descriptors_json.proofs.members.put_mark.Goals as goal

pub returns : goal.returns
returns g c = on_ok_weaker c.put_optional.result (valued c.mark_of.ensures) c.put_optional.ensures
