use Rattle.std.proofs.Common.{◌≡◌, ◌++◌, map, drop}
use Rattle.proto_ast.specs.Parts.{separated}
use Rattle.proto_ast.proofs.separated.push_tokens.Given as goal

abbrev pub invariant-loop-behind : goal.invariant-loop-behind
invariant-loop-behind l = l.found.items ++ map (λ b. b.item) (drop l.behind-index l.behind-items) ≡ l.fn.found.items ++ separated l.tokens
