use Rattle.std.proofs.Common.{◌≡◌, ◌++◌, map, drop, flat_map}
use Rattle.proto_tree.specs.File.{trees, member_tree}
use Rattle.proto_ast.specs.Parts.{reserved_ranges, statements}
use Rattle.proto_ast.proofs.ranges.reserved_ranges.Given as goal

abbrev pub invariant-loop-member : goal.invariant-loop-member
invariant-loop-member l = map (λ r. r.now) l.found.items ++ flat_map reserved_ranges (statements (trees member_tree (drop l.member-index l.members))) ≡ flat_map reserved_ranges (statements (trees member_tree l.members))
