use Rattle.std.proofs.Common.{◌≡◌, ◌<◌, [], length, get_or, drop, map}
use Rattle.proto_text.specs.Texts.{word_at}
use Rattle.proto_names_table.proofs.Common.{names_of, under_all}
use Rattle.proto_names.proofs.resolve.follow.Given as goal

abbrev pub invariant-loop-behind : goal.invariant-loop-behind
invariant-loop-behind l = record {
  within : l.row < length l.table.rows.items;
  text : under_all (get_or (names_of l.table) l.row []) (drop l.behind-index (map (λ b. word_at l.words b.item) l.rest)) ≡ under_all (get_or (names_of l.table) l.start []) (map (λ b. word_at l.words b.item) l.rest);
}
