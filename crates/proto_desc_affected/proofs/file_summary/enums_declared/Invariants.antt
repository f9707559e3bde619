use Rattle.std.proofs.Common.{◌≡◌, [], flat_map, get_or, map, take}
use Rattle.proto_desc_affected.specs.Checked.{enum_by_link}
use Rattle.proto_resolved.specs.Enums.{enum_row_at}
use Rattle.proto_desc_affected.specs.Common.{enum_summary_of}
use Rattle.proto_desc_affected.proofs.file_summary.enums_declared.Given as goal

abbrev pub invariant-loop-place : goal.invariant-loop-place
invariant-loop-place l =
    map enum_summary_of l.enums.items ≡ flat_map (enum_by_link l.link (enum_row_at l.rows)) (take l.place (get_or l.link.rows l.file []))
