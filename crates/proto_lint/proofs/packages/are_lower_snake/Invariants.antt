use Rattle.std.proofs.Common.{◌≡◌, map, drop}
use Rattle.std.specs.List.{list_all}
use Rattle.proto_case.specs.Cases.{is_lower_snake}
use Rattle.proto_lint.proofs.packages.are_lower_snake.Given as goal

abbrev pub invariant-loop-word : goal.invariant-loop-word
invariant-loop-word l = list_all is_lower_snake (map (λ w. w.now) l.words) ≡ list_all is_lower_snake (map (λ w. w.now) (drop l.word-index l.words))
