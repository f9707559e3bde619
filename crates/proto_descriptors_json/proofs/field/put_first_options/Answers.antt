use Rattle.proto_descriptors_json.proofs.Sending.{options_all}
use Rattle.std.proofs.lemmas.Result.{IfOk-weaker}
use Rattle.proto_descriptors_json.proofs.field.put_first_options.Goals as goal

pub returns : goal.returns
returns g c =
    IfOk-weaker c.put_option-4.result _ _ (λ is_open sent last rest. options_all
    (c.in_ok-is_open.ensures _ _
    (c.in_ok-is_open-2.ensures _ _
    (c.in_ok-is_open-3.ensures _ _
    (sent _ _
    rest)))))
    c.put_option-4.ensures
