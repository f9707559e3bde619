use Rattle.std.proofs.Common.{◌≡◌, map, take}
use Rattle.proto_desc_affected.specs.Common.{file_summary_of}
use Rattle.proto_desc_affected.proofs.file_summary.copy_file_summaries.Given as goal

abbrev pub invariant-loop-kept : goal.invariant-loop-kept
invariant-loop-kept l = map file_summary_of l.copy.items ≡ map file_summary_of (take l.kept-index l.files)
