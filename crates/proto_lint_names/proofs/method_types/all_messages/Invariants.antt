use Rattle.std.proofs.Common.{◌≡◌, ◌++◌, List, map, drop}
use Rattle.proto_files.specs.FilesRead.{AreRead, ReadOf}
use Rattle.proto_lint_names.specs.BlockFinds.{all_messages, messages_from}
use Rattle.proto_lint_names.proofs.method_types.all_messages.Given as goal

abbrev pub invariant-loop-file : goal.invariant-loop-file
invariant-loop-file l = (reads : List ReadOf) → AreRead l.linked.files reads → map (λ s. s.now) l.all.items ++ messages_from l.linked.files reads l.file (drop l.file reads) ≡ all_messages l.linked.files reads
