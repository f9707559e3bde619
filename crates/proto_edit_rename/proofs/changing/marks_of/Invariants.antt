use Rattle.std.proofs.Common.{◌≡◌, drop, false, replicate}
use Rattle.proto_edit_rename.specs.MadeChanges.{marked_from}
use Rattle.proto_edit_rename.proofs.changing.marks_of.Given as goal

abbrev pub invariant-loop-place : goal.invariant-loop-place
invariant-loop-place l = marked_from l.marks.items (drop l.place-index l.places) ≡ marked_from (replicate l.fn.count false) l.places
