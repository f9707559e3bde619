use Rattle.proto_descriptors_json.proofs.Sending.{member_sent}
use Rattle.std.proofs.lemmas.Result.{on_ok_weaker}
use Rattle.proto_descriptors_json.proofs.members.put.Goals as goal

pub returns : goal.returns
returns g c = on_ok_weaker c.send.result (λ sent. member_sent _ _ c.in_ok-key.ensures sent) c.send.ensures
