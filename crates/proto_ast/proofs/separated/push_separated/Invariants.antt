use Rattle.std.proofs.Common.{◌≡◌, ◌++◌, map, drop}
use Rattle.proto_ast.specs.Parts.{separated}
use Rattle.proto_ast.proofs.separated.push_separated.Given as goal

abbrev pub invariant-loop-behind : goal.invariant-loop-behind
invariant-loop-behind g l = map (λ r. r.now) l.found.items ++ map (λ b. b.item) (drop l.behind-index l.behind-items) ≡ map (λ r. r.now) l.fn.found.items ++ separated l.items
