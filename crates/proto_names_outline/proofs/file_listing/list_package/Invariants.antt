use Rattle.std.proofs.Common.{◌≡◌, ◌≤◌, [], length, map, drop, take}
use Rattle.proto_names_rules.proofs.Common.{Token, prefixes}
use Rattle.proto_names_outline.specs.Common.{Outermost, Listing, Adds, needs, path_at, read}
use Rattle.proto_names_outline.proofs.file_listing.list_package.Given as goal

abbrev pub invariant-loop-word : goal.invariant-loop-word
invariant-loop-word l = record {
  within : needs l.above ≤ length l.listing.declared.items;
  path : path_at (read l.listing.declared.items) l.above ≡ map (λ t. Token t) (take l.word-index l.words);
  rest : (final : Listing) → Adds l.listing final l.above (λ path. prefixes path (drop l.word-index l.words)) (λ path. []) → Adds l.fn.listing final Outermost (λ path. prefixes path l.words) (λ path. []);
}
