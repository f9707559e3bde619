use Rattle.std.proofs.Common.{All, List, take}
use Rattle.proto_files.proofs.Common.{AreRead, ReadOf}
use Rattle.proto_desc_affected.specs.Common.{file_summaries_of}
use Rattle.proto_desc_affected.proofs.AskedFiles.{HasNoExtend}
use Rattle.proto_desc_affected.proofs.marks.has_no_marked_extends.Given as goal

abbrev pub invariant-loop-file : goal.invariant-loop-file
invariant-loop-file l = (reads : List ReadOf) → AreRead l.files reads → All (HasNoExtend reads (file_summaries_of l.kept)) (take l.file-index l.file-items)
