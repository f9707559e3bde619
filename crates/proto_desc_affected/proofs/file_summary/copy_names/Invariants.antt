use Rattle.std.proofs.Common.{◌≡◌, map, take}
use Rattle.proto_desc_affected.specs.Common.{type_use_of}
use Rattle.proto_desc_affected.proofs.file_summary.copy_names.Given as goal

abbrev pub invariant-loop-kept : goal.invariant-loop-kept
invariant-loop-kept l = map type_use_of l.copy.items ≡ map type_use_of (take l.kept-index l.names)
