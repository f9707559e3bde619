use Rattle.std.proofs.Common.{◌≡◌, ◌++◌, List, take}
use Rattle.proto_ast.specs.declared.ranges.RangeAt.{RangeAt}
use Rattle.proto_desc_numbers.specs.Common.{earlier, share, IsRangeIndexOf}
use Rattle.proto_desc_numbers.proofs.numbers.add_sharing.Given as goal

abbrev pub invariant-loop-i : goal.invariant-loop-i
invariant-loop-i l = (rs : List RangeAt) → IsRangeIndexOf rs l.index → l.flags.items ≡ l.initial.flags.items ++ earlier share rs (take l.i l.ranges)
