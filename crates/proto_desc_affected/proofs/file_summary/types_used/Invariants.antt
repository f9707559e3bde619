use Rattle.std.proofs.Common.{◌≡◌, map, take}
use Rattle.proto_desc_affected.specs.Checked.{kept_by_link}
use Rattle.proto_desc_affected.specs.Common.{type_use_of}
use Rattle.proto_desc_affected.proofs.file_summary.types_used.Given as goal

abbrev pub invariant-loop-meant : goal.invariant-loop-meant
invariant-loop-meant l = map type_use_of l.names.items ≡ map (kept_by_link l.link) (take l.meant-index l.meant-items)
