use Rattle.proto_descriptors_json.proofs.Sending.{optioned, options_all}
use Rattle.std.proofs.lemmas.Result.{on_ok_weaker}
use Rattle.proto_descriptors_json.proofs.message.put_options.Goals as goal

pub returns : goal.returns
returns g c =
    on_ok_weaker c.close.result (λ ends. options_all
    (c.in_ok-is_open.ensures _ _ (optioned c.mark_of.ensures (c.in_ok-is_open-2.ensures _ _ (c.in_ok-is_open-3.ensures _ _ ends)))))
    c.close.ensures
