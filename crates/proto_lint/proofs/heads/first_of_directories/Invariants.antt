use Rattle.std.proofs.Common.{◌≡◌, map, take}
use Rattle.proto_lint.specs.Packages.{directory}
use Rattle.proto_lint.proofs.heads.first_of_directories.Given as goal

abbrev pub invariant-loop-head : goal.invariant-loop-head
invariant-loop-head l = map (λ t. t.now) l.directories.items ≡ map directory (take l.head-index l.heads)
