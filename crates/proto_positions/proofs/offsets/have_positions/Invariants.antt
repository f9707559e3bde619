use Rattle.std.proofs.Common.{◌↔◌, drop}
use Rattle.std.specs.List.{AllByRecursion}
use Rattle.proto_text.specs.Splicing.{edits}
use Rattle.proto_positions.specs.TextEdits.{HavePositions}
use Rattle.proto_positions.proofs.offsets.have_positions.Given as goal

abbrev pub invariant-loop-splice : goal.invariant-loop-splice
invariant-loop-splice l =
    AllByRecursion (HavePositions l.text) (edits (drop l.splice-index l.splice-items)) ↔ AllByRecursion (HavePositions l.text) (edits l.splice-items)
