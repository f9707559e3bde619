use Rattle.std.proofs.Common.{◌≡◌, map, take}
use Rattle.proto_lint.specs.Packages.{package_name}
use Rattle.proto_lint.proofs.heads.first_of_packages.Given as goal

abbrev pub invariant-loop-head : goal.invariant-loop-head
invariant-loop-head l = map (λ t. t.now) l.packages.items ≡ map package_name (take l.head-index l.heads)
