use Rattle.std.proofs.Common.{◌≡◌, length}
use Rattle.proto_names_imports.proofs.import_cycles.lengths.Given as goal

abbrev pub invariant-loop-list : goal.invariant-loop-list
invariant-loop-list l = length l.lengths.items ≡ l.list-index
