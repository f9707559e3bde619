use Rattle.std.proofs.Common.{◌≤◌, length, drop}
use Rattle.proto_tree.specs.File.{trees, item_tree}
use Rattle.proto_names_outline.specs.Common.{Listing, item_uses, Adds, needs}
use Rattle.proto_names_outline.proofs.Listed.{items_placed}
use Rattle.proto_names_outline.proofs.file_listing.list_items.Given as goal

abbrev pub invariant-loop-item : goal.invariant-loop-item
invariant-loop-item l = record {
  within : needs l.above ≤ length l.listing.declared.items;
  rest : (final : Listing) → Adds l.listing final l.above (λ path. items_placed path (trees item_tree (drop l.item-index l.items))) (λ path. item_uses path (trees item_tree (drop l.item-index l.items))) → Adds l.fn.listing final l.above (λ path. items_placed path (trees item_tree l.items)) (λ path. item_uses path (trees item_tree l.items));
}
