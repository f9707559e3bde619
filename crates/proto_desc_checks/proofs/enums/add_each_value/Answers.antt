use Rattle.proto_desc_checks.specs.FileFlaws.{value_option_flaws}
use Rattle.proto_base.proofs.Turns.{seen_more, seen_all}
use Rattle.proto_desc_checks.proofs.enums.add_each_value.Goals as goal

pub loop-value-preserved : goal.loop-value-preserved
loop-value-preserved c = seen_more (value_option_flaws c.args.scene.now) (λ v. v.now) c.args.values.now c.loop-value.value-index c.value-item.result c.value-item.result c.args.found.now.items c.loop-value.found.items _ c.loop-value-test.true c.value-item.is c.in_ok-add_value_options.ensures c.loop-value.invariant

pub returns : goal.returns
returns c = seen_all (value_option_flaws c.args.scene.now) (λ v. v.now) c.args.values.now c.loop-value.value-index c.args.found.now.items c.loop-value.found.items c.loop-value-test.false c.loop-value.invariant
