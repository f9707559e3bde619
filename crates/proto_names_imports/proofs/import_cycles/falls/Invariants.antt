use Rattle.std.proofs.Common.{ℕ, ◌<◌, [], get_or, map, Contains}
use Rattle.proto_names_imports.proofs.import_cycles.falls.Given as goal

abbrev pub invariant-loop-file : goal.invariant-loop-file
invariant-loop-file l = (file target : ℕ) → file < l.file → Contains (get_or (map (λ v. v.items) l.next) file []) target → get_or l.ranks target 0 < get_or l.ranks file 0
