use Rattle.std.proofs.Common.{refl}
use Rattle.std.proofs.lemmas.Result.{on_ok_weaker}
use Rattle.proto_descriptors_json.proofs.Sending.{options_ended, options_none}
use Rattle.proto_descriptors_json.proofs.options.close.Goals as goal

pub returns-then-is_open : goal.returns-then-is_open
returns-then-is_open g c = on_ok_weaker c.end_map.result (options_ended c.if-is_open.true) c.end_map.ensures

pub returns-else-is_open : goal.returns-else-is_open
returns-else-is_open g c = options_none c.if-is_open.false refl
