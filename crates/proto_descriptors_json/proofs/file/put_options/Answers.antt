use Rattle.std.proofs.lemmas.Result.{on_ok_weaker}
use Rattle.proto_descriptors_json.proofs.file.put_options.Goals as goal

pub returns : goal.returns
returns g c =
    on_ok_weaker c.put_later_options.result (λ sent. c.in_ok-is_open.ensures _ (c.in_ok-is_open-2.ensures _ (c.in_ok-is_open-3.ensures _ sent))) c.put_later_options.ensures
