use Rattle.std.proofs.Common.{◌≡◌, take, map, string_bytes}
use Rattle.proto_journal.proofs.writing.paths_in.Given as goal

abbrev pub invariant-loop-change : goal.invariant-loop-change
invariant-loop-change l = map (λ p. p.now) l.paths.items ≡ map (λ c. string_bytes c.path) (take l.change-index l.changes)
