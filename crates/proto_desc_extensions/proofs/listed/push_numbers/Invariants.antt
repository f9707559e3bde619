use Rattle.std.proofs.Common.{◌≡◌, ◌++◌, List, map, take}
use Rattle.proto_ast.specs.declared.ranges.RangeAt.{RangeAt}
use Rattle.proto_desc_numbers.specs.RangeIndex.{IsRangeIndexOf}
use Rattle.proto_desc_extensions.specs.Common.{told_by, told_number}
use Rattle.proto_desc_extensions.proofs.listed.push_numbers.Given as goal

abbrev pub invariant-loop-number : goal.invariant-loop-number
invariant-loop-number l = (ranges : List RangeAt) → IsRangeIndexOf ranges l.extendee.ranges.now → map told_by l.found.items ≡ map told_by l.initial.found.items ++ map (told_number l.extendee.name.now ranges) (take l.number-index l.numbers)
