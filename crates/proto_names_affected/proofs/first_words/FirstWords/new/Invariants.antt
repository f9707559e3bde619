use Rattle.std.proofs.Common.{◌≡◌, ◌≤◌, ◌+◌, All, length}
use Rattle.proto_names_affected.proofs.first_words.FirstWords.new.Given as goal

abbrev pub invariant-loop : goal.invariant-loop
invariant-loop l = record {
  len : length l.sets.items ≡ l.counter;
  upper : l.counter ≤ l.count + 1;
  sized : All (λ set. length set ≡ l.file_count) l.sets.items;
}
