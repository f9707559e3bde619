use Rattle.proto_descriptors_json.proofs.Sending.{each_all, each_more, no_values}
use Rattle.std.proofs.Common.{arith}
use Rattle.proto_descriptors_json.proofs.values.send_each.Goals as goal

pub loop-value-init : goal.loop-value-init
loop-value-init g c = no_values

pub loop-value-preserved : goal.loop-value-preserved
loop-value-preserved g c =
    each_more g.T.ToJson.text c.args.values.now c.loop-value.value-index c.value-item.result (omega (arith, c.loop-value-test.true)) c.value-item.is
    c.loop-value.invariant c.in_ok-send.ensures

pub returns : goal.returns
returns g c = each_all g.T.ToJson.text c.args.values.now c.loop-value.value-index (omega (arith, c.loop-value-test.false)) c.loop-value.invariant
