use Rattle.std.proofs.Common.{◌≡◌, [], map, replicate}
use Rattle.proto_option_values.proofs.leading.empty_lists.Given as goal

abbrev pub invariant-loop : goal.invariant-loop
invariant-loop l = map (λ v. v.items) l.lists.items ≡ replicate l.counter []
