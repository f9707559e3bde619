use Rattle.std.proofs.Common.{◌≡◌, ◌++◌, map, drop}
use Rattle.proto_custom_options.proofs.option_words.push_path.Given as goal

abbrev pub invariant-loop-behind : goal.invariant-loop-behind
invariant-loop-behind l = l.found.items ++ map (λ b. b.item) (drop l.behind-index l.path) ≡ l.fn.found.items ++ map (λ b. b.item) l.path
