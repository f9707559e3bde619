use Rattle.std.proofs.Common.{◌≡◌, ◌++◌, drop}
use Rattle.proto_edit_rename.specs.MadeChanges.{marked_tokens}
use Rattle.proto_edit_rename.proofs.changing.tokens_with_marks.Given as goal

abbrev pub invariant-loop-place : goal.invariant-loop-place
invariant-loop-place l = l.found.items ++ marked_tokens (drop l.place l.tokens) (drop l.place l.marks) ≡ marked_tokens l.tokens l.marks
