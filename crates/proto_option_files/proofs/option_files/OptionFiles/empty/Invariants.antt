use Rattle.std.proofs.Common.{◌≡◌, ◌≤◌, ◌+◌, All, false, length, replicate}
use Rattle.proto_option_files.proofs.option_files.OptionFiles.empty.Given as goal

abbrev pub invariant-loop : goal.invariant-loop
invariant-loop l = record {
  len : length l.sets.items ≡ l.counter;
  upper : l.counter ≤ l.count + 1;
  blank : All (λ set. set ≡ replicate l.file_count false) l.sets.items;
}
