use Rattle.std.proofs.Common.{ℕ, ◌<◌, get_or}
use Rattle.proto_names_imports.proofs.import_cycles.are_below.Given as goal

abbrev pub invariant-loop-file : goal.invariant-loop-file
invariant-loop-file l = (k : ℕ) (d : ℕ) → k < l.file-index → get_or l.ranks (get_or l.files k d) 0 < l.rank
