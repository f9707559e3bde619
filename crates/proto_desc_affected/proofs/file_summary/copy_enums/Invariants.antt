use Rattle.std.proofs.Common.{◌≡◌, map, take}
use Rattle.proto_desc_affected.specs.Common.{enum_summary_of}
use Rattle.proto_desc_affected.proofs.file_summary.copy_enums.Given as goal

abbrev pub invariant-loop-kept : goal.invariant-loop-kept
invariant-loop-kept l = map enum_summary_of l.copy.items ≡ map enum_summary_of (take l.kept-index l.enums)
