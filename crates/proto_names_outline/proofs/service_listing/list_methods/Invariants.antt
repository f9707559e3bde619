use Rattle.std.proofs.Common.{◌≡◌, ◌≤◌, length, drop}
use Rattle.proto_tree.specs.File.{trees, service_item_tree}
use Rattle.proto_names_outline.specs.Common.{Below, Listing, flat_uses, Adds, needs, path_at, read}
use Rattle.proto_names_outline.proofs.Listed.{methods_placed}
use Rattle.proto_names_outline.proofs.service_listing.list_methods.Given as goal

abbrev pub invariant-loop-item : goal.invariant-loop-item
invariant-loop-item l =
    let outer = path_at (read l.fn.listing.declared.items) l.around in
    record {
      around : needs l.around ≤ length l.listing.declared.items;
      same : path_at (read l.listing.declared.items) l.around ≡ outer;
      within : needs (Below l.scope) ≤ length l.listing.declared.items;
      rest : (final : Listing) → Adds l.listing final (Below l.scope) (λ path. methods_placed path (trees service_item_tree (drop l.item-index l.items))) (λ path. flat_uses outer path (trees service_item_tree (drop l.item-index l.items))) → Adds l.fn.listing final (Below l.scope) (λ path. methods_placed path (trees service_item_tree l.items)) (λ path. flat_uses outer path (trees service_item_tree l.items));
    }
