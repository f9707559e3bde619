use Rattle.std.proofs.Common.{◌≤◌, length, drop}
use Rattle.proto_tree.specs.File.{trees, enum_item_tree}
use Rattle.proto_names_outline.specs.Common.{Listing, Adds, needs}
use Rattle.proto_names_outline.proofs.Listed.{values_placed, inner_uses}
use Rattle.proto_names_outline.proofs.enum_listing.list_values.Given as goal

abbrev pub invariant-loop-item : goal.invariant-loop-item
invariant-loop-item l = record {
  within : needs l.above ≤ length l.listing.declared.items;
  rest : (final : Listing) → Adds l.listing final l.above (λ path. values_placed path (trees enum_item_tree (drop l.item-index l.items))) (λ path. inner_uses path (trees enum_item_tree (drop l.item-index l.items))) → Adds l.fn.listing final l.above (λ path. values_placed path (trees enum_item_tree l.items)) (λ path. inner_uses path (trees enum_item_tree l.items));
}
