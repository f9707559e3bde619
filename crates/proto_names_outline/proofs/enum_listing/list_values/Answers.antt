use Rattle.std.proofs.Common.{arith}
use Rattle.proto_tree.specs.File.{enum_item_tree}
use Rattle.proto_names_outline.proofs.Growing.{adds_turn, adds_end}
use Rattle.proto_names_outline.proofs.Listed.{values_placed, inner_uses, values_parted}
use Rattle.proto_names_outline.proofs.enum_listing.list_values.Goals as goal

pub loop-item-preserved : goal.loop-item-preserved
loop-item-preserved c = record {
  within = omega (arith, c.in_ok-list_value.ensures.grown, c.loop-item.invariant.within);
  rest = λ final rest. c.loop-item.invariant.rest final (adds_turn enum_item_tree values_placed inner_uses values_parted c.args.items.now c.loop-item.item-index c.item-item.result (omega arith) c.item-item.is c.in_ok-list_value.ensures rest c.loop-item.invariant.within);
}

pub returns : goal.returns
returns c = c.loop-item.invariant.rest c.loop-item.listing (adds_end enum_item_tree values_placed inner_uses values_parted c.args.items.now c.loop-item.item-index (omega arith) c.loop-item.listing c.args.above)
