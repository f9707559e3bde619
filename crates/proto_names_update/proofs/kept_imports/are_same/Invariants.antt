use Rattle.std.proofs.Common.{◌≡◌, take}
use Rattle.proto_names_update.proofs.kept_imports.are_same.Given as goal

abbrev pub invariant-loop-k : goal.invariant-loop-k
invariant-loop-k l = record {
  same : take l.k l.one ≡ take l.k l.other;
}
