use Rattle.proto_base.proofs.Turns.{listed_more, listed_all}
use Rattle.proto_desc_checks.proofs.enums.value_names.Goals as goal

pub loop-value-preserved : goal.loop-value-preserved
loop-value-preserved c = listed_more (λ v. v.name) (λ v. v.now) c.args.values.now c.loop-value.value-index c.value-item.result c.value-item.result c.loop-value.names.items _ c.loop-value-test.true c.value-item.is c.in_ok-push.ensures.items c.loop-value.invariant

pub returns : goal.returns
returns c = listed_all (λ v. v.name) (λ v. v.now) c.args.values.now c.loop-value.value-index c.loop-value.names.items c.loop-value-test.false c.loop-value.invariant
