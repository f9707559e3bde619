use Rattle.std.proofs.Common.{[], ◌≤◌, length, drop, flat_map}
use Rattle.proto_names_outline.specs.Common.{Listing, Adds, needs, setting_uses}
use Rattle.proto_names_outline.proofs.option_listing.list_behind.Given as goal

abbrev pub invariant-loop-behind : goal.invariant-loop-behind
invariant-loop-behind l = record {
  within : needs l.scope ≤ length l.listing.declared.items;
  rest : (final : Listing) → Adds l.listing final l.scope (λ path. []) (λ path. flat_map (λ b. setting_uses path b.item) (drop l.behind-index l.settings)) → Adds l.fn.listing final l.scope (λ path. []) (λ path. flat_map (λ b. setting_uses path b.item) l.settings);
}
