use Rattle.proto_descriptors_json.proofs.Sending.{last, more}
use Rattle.std.proofs.lemmas.Result.{on_ok_weaker}
use Rattle.proto_descriptors_json.proofs.service.put_members.Goals as goal

pub returns : goal.returns
returns g c =
    on_ok_weaker c.put_mark-2.result (λ sent.
    (more c.in_ok-put_mark.ensures
    (more c.in_ok-put.ensures
    (more c.in_ok-put-2.ensures
    (more c.in_ok-put_method_options.ensures
    (more c.in_ok-put-3.ensures
    (last sent)))))))
    c.put_mark-2.ensures
