use Rattle.std.proofs.Common.{arith}
use Rattle.proto_names_outline.specs.Common.{setting_uses}
use Rattle.proto_names_outline.proofs.Growing.{adds_each, adds_each_end}
use Rattle.proto_names_outline.proofs.option_listing.list_behind.Goals as goal

pub loop-behind-preserved : goal.loop-behind-preserved
loop-behind-preserved c = record {
  within = omega (arith, c.in_ok-list_setting.ensures.grown, c.loop-behind.invariant.within);
  rest = λ final rest. c.loop-behind.invariant.rest final (adds_each (λ path b. setting_uses path b.item) c.args.settings.now c.loop-behind.behind-index c.behind-item.result (omega arith) c.behind-item.is c.in_ok-list_setting.ensures rest c.loop-behind.invariant.within);
}

pub returns : goal.returns
returns c = c.loop-behind.invariant.rest c.loop-behind.listing (adds_each_end (λ path b. setting_uses path b.item) c.args.settings.now c.loop-behind.behind-index (omega arith) c.loop-behind.listing c.args.scope)
