use Rattle.std.proofs.Common.{◌≡◌, [], map, replicate}
use Rattle.proto_desc_extensions.proofs.flaws.no_flaws.Given as goal

abbrev pub invariant-loop : goal.invariant-loop
invariant-loop l = map (λ v. v.items) l.found.items ≡ replicate l.counter []
