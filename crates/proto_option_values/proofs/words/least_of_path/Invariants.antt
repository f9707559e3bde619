use Rattle.std.proofs.Common.{◌≡◌, map, drop}
use Rattle.proto_option_values.specs.Words.{asks, least_word, lesser}
use Rattle.proto_option_values.proofs.words.least_of_path.Given as goal

abbrev pub invariant-loop-behind : goal.invariant-loop-behind
invariant-loop-behind l = lesser l.found (least_word (asks l.asked l.words) (map (λ b. b.item) (drop l.behind-index l.path))) ≡ least_word (asks l.asked l.words) (map (λ b. b.item) l.path)
