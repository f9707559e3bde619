use Rattle.std.proofs.Common.{arith}
use Rattle.proto_tree.specs.File.{item_tree}
use Rattle.proto_names_outline.specs.FromTree.{item_uses}
use Rattle.proto_names_outline.proofs.Growing.{adds_turn, adds_end}
use Rattle.proto_names_outline.proofs.Listed.{items_placed, items_parted}
use Rattle.proto_names_outline.proofs.file_listing.list_items.Goals as goal

pub loop-item-preserved : goal.loop-item-preserved
loop-item-preserved c = record {
  within = omega (arith, c.in_ok-list_item.ensures.grown, c.loop-item.invariant.within);
  rest = λ final rest. c.loop-item.invariant.rest final (adds_turn item_tree items_placed item_uses items_parted c.args.items.now c.loop-item.item-index c.item-item.result (omega arith) c.item-item.is c.in_ok-list_item.ensures rest c.loop-item.invariant.within);
}

pub returns : goal.returns
returns c = c.loop-item.invariant.rest c.loop-item.listing (adds_end item_tree items_placed item_uses items_parted c.args.items.now c.loop-item.item-index (omega arith) c.loop-item.listing c.args.above)
