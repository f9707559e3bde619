use Rattle.std.proofs.Common.{◌≡◌, ◌∷◌, map, take}
use Rattle.proto_names_outline.proofs.wanted.tokens_of.Given as goal

abbrev pub invariant-loop-behind : goal.invariant-loop-behind
invariant-loop-behind l = l.tokens.items ≡ l.words.first ∷ map (λ b. b.item) (take l.behind-index l.behind-items)
