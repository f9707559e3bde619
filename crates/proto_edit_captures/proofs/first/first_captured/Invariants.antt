use Rattle.std.proofs.Common.{All, List, None, take}
use Rattle.proto_files.specs.FilesRead.{ReadOf, AreRead}
use Rattle.proto_edit_rules.specs.Rename.{Target}
use Rattle.proto_edit_captures.specs.Common.{IsFoundTarget, IsFirstIn}
use Rattle.proto_edit_captures.proofs.first.first_captured.Given as goal

abbrev pub invariant-loop-file : goal.invariant-loop-file
invariant-loop-file l = All (λ k. (reads : List ReadOf) → AreRead l.linked.files reads → (t : Target) → IsFoundTarget l.linked.files reads l.target t → IsFirstIn l.linked.files reads t l.to k None) (take l.file-index l.file-items)
