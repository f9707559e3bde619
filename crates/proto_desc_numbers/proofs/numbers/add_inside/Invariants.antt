use Rattle.std.proofs.Common.{◌≡◌, ◌++◌, List, take}
use Rattle.proto_ast.specs.declared.ranges.RangeAt.{RangeAt}
use Rattle.proto_desc_numbers.specs.Common.{reserved_numbers, IsRangeIndexOf}
use Rattle.proto_desc_numbers.proofs.numbers.add_inside.Given as goal

abbrev pub invariant-loop-at : goal.invariant-loop-at
invariant-loop-at l = (rs : List RangeAt) → IsRangeIndexOf rs l.index → l.found.items ≡ l.initial.found.items ++ reserved_numbers rs (take l.at-index l.numbers)
