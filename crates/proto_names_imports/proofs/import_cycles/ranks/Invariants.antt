use Rattle.std.proofs.Common.{◌≡◌, ◌<◌, length, All}
use Rattle.proto_names_imports.proofs.import_cycles.ranks.Given as goal

abbrev pub invariant-loop-rank : goal.invariant-loop-rank
invariant-loop-rank l = record {
  len : length l.ranks.items ≡ length l.next;
  waiting : length l.waiting.items ≡ length l.next;
  ready : All (λ g. g < length l.next) l.ready.items;
}
