use Rattle.std.proofs.Common.{option_map, refl, sym, ap}
use Rattle.proto_descriptors_json.proofs.Sending.{valued, absent}
use Rattle.proto_descriptors_json.proofs.members.put_optional.Goals as goal

pub returns-in-None : goal.returns-in-None
returns-in-None g c = valued (ap (option_map g.T.ToJson.text) (sym c.in-None.is)) (absent c.args.key.now refl)
