use Rattle.std.proofs.Common.{List, map, take}
use Rattle.proto_edit_entries.specs.Entries.{change_of}
use Rattle.proto_files.specs.FilesRead.{ReadOf, AreRead}
use Rattle.proto_edit_rules.specs.Rename.{Target, renamed_words}
use Rattle.proto_edit_rename.proofs.WholeChanges.{AreChangesAt}
use Rattle.proto_edit_captures.specs.FoundTargets.{IsFoundTarget}
use Rattle.proto_edit_rename.proofs.changes.changes_with.Given as goal

abbrev pub invariant-loop-file : goal.invariant-loop-file
invariant-loop-file l =
    (reads : List ReadOf) → AreRead l.scope.files reads → (t : Target) → IsFoundTarget l.scope.files reads l.scope.target t
    → AreChangesAt l.scope.files reads (renamed_words l.scope.files reads t l.to) (take l.file-index l.file-items) (map change_of l.changes.items)
