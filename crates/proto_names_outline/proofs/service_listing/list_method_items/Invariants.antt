use Rattle.std.proofs.Common.{◌≤◌, length, drop}
use Rattle.proto_tree.specs.File.{trees, method_item_tree}
use Rattle.proto_names_outline.specs.Common.{Below, Listing, Adds, needs}
use Rattle.proto_names_outline.proofs.Listed.{inner_uses, none_placed}
use Rattle.proto_names_outline.proofs.service_listing.list_method_items.Given as goal

abbrev pub invariant-loop-item : goal.invariant-loop-item
invariant-loop-item l = record {
  within : needs (Below l.scope) ≤ length l.listing.declared.items;
  rest : (final : Listing) → Adds l.listing final (Below l.scope) (λ path. none_placed path (trees method_item_tree (drop l.item-index l.items))) (λ path. inner_uses path (trees method_item_tree (drop l.item-index l.items))) → Adds l.fn.listing final (Below l.scope) (λ path. none_placed path (trees method_item_tree l.items)) (λ path. inner_uses path (trees method_item_tree l.items));
}
