use Rattle.std.proofs.Common.{◌<◌, length, All}
use Rattle.proto_names_imports.proofs.import_cycles.empty_ones.Given as goal

abbrev pub invariant-loop-file : goal.invariant-loop-file
invariant-loop-file l = All (λ g. g < length l.next) l.files.items
