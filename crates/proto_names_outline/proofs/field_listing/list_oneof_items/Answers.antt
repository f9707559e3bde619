use Rattle.std.proofs.Common.{arith}
use Rattle.proto_tree.specs.File.{oneof_item_tree}
use Rattle.proto_names_outline.specs.Common.{Below}
use Rattle.proto_names_outline.proofs.Growing.{adds_turn, adds_end}
use Rattle.proto_names_outline.proofs.Listed.{inner_uses, fields_placed, fields_parted}
use Rattle.proto_names_outline.proofs.field_listing.list_oneof_items.Goals as goal

pub loop-item-preserved : goal.loop-item-preserved
loop-item-preserved c = record {
  within = omega (arith, c.in_ok-list_oneof_item.ensures.grown, c.loop-item.invariant.within);
  rest = λ final rest. c.loop-item.invariant.rest final (adds_turn oneof_item_tree fields_placed inner_uses fields_parted c.args.items.now c.loop-item.item-index c.item-item.result (omega arith) c.item-item.is c.in_ok-list_oneof_item.ensures rest c.loop-item.invariant.within);
}

pub returns : goal.returns
returns c = c.loop-item.invariant.rest c.loop-item.listing (adds_end oneof_item_tree fields_placed inner_uses fields_parted c.args.items.now c.loop-item.item-index (omega arith) c.loop-item.listing (Below c.args.scope))
