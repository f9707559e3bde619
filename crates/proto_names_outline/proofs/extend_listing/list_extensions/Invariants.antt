use Rattle.std.proofs.Common.{◌≤◌, length, drop}
use Rattle.proto_tree.specs.File.{trees, extension_tree}
use Rattle.proto_names_outline.specs.Common.{Listing, Adds, needs}
use Rattle.proto_names_outline.proofs.Listed.{inner_uses, extensions_placed}
use Rattle.proto_names_outline.proofs.extend_listing.list_extensions.Given as goal

abbrev pub invariant-loop-extension : goal.invariant-loop-extension
invariant-loop-extension l = record {
  within : needs l.above ≤ length l.listing.declared.items;
  rest : (final : Listing) → Adds l.listing final l.above (λ path. extensions_placed path (trees extension_tree (drop l.extension-index l.extensions))) (λ path. inner_uses path (trees extension_tree (drop l.extension-index l.extensions))) → Adds l.fn.listing final l.above (λ path. extensions_placed path (trees extension_tree l.extensions)) (λ path. inner_uses path (trees extension_tree l.extensions));
}
