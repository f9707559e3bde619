use Rattle.std.proofs.Common.{◌≡◌, ◌≤◌, ◌++◌, length, map, string_bytes, reverse}
use Rattle.proto_case.specs.Camel.{entry_name}
use Rattle.proto_names_outline.specs.Listing.{needs, path_at, read}
use Rattle.proto_names_rules.specs.Skeleton.{name_of}
use Rattle.proto_text.specs.Texts.{word_at}
use Rattle.proto_edit_captures.proofs.scope.scope_words.Given as goal

abbrev pub invariant-loop-above : goal.invariant-loop-above
invariant-loop-above l = record {
  within : needs l.above ≤ length l.declared;
  words : name_of (word_at l.words) entry_name (path_at (read l.declared) l.above) ++ reverse (map string_bytes l.outward.items) ≡ name_of (word_at l.words) entry_name (path_at (read l.declared) l.fn.scope);
}

abbrev pub decreases-loop-above : goal.decreases-loop-above
decreases-loop-above l = needs l.above
