use Rattle.proto_custom_options.proofs.RisingCustoms.{customs_rise}
use Rattle.proto_custom_options.proofs.Stretches.{customs_stand}
use Rattle.proto_custom_options.proofs.laws.customs_stand_in_order.Goals as goal

pub returns : goal.returns
returns c = record { whole = customs_stand; order = customs_rise }
