use Rattle.std.proofs.Common.{option_map, refl, sym, ap}
use Rattle.proto_descriptors_json.proofs.Sending.{optioned, option_put, option_absent}
use Rattle.proto_descriptors_json.proofs.options.put_option.Goals as goal

pub returns-in_ok-put-in-Some : goal.returns-in_ok-put-in-Some
returns-in_ok-put-in-Some g c = λ slots last ends.
    optioned (ap (option_map g.T.ToJson.text) (sym c.in-Some.is)) (option_put _ _ _ _ _ _ c.in_ok-open-in-Some.ensures c.in_ok-put-in-Some.ensures slots last ends)

pub returns-in-None : goal.returns-in-None
returns-in-None g c = λ slots last ends.
    optioned (ap (option_map g.T.ToJson.text) (sym c.in-None.is)) (option_absent _ _ _ _ refl slots last ends)
