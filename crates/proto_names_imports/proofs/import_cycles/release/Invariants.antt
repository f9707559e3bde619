use Rattle.std.proofs.Common.{◌≡◌, ◌<◌, length, All}
use Rattle.proto_names_imports.proofs.import_cycles.release.Given as goal

abbrev pub invariant-loop-file : goal.invariant-loop-file
invariant-loop-file l = record {
  len : length l.waiting.items ≡ length l.initial.waiting.items;
  ready : All (λ g. g < length l.initial.waiting.items) l.ready.items;
}
