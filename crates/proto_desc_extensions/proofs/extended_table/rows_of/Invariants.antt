use Rattle.std.proofs.Common.{List, map, take, flat_map}
use Rattle.proto_files.specs.FilesRead.{AreRead, ReadOf}
use Rattle.proto_resolved.specs.Blocks.{block_of}
use Rattle.proto_desc_extensions.specs.Common.{AreExtendedRows, block_extending}
use Rattle.proto_desc_extensions.proofs.extended_table.rows_of.Given as goal

abbrev pub invariant-loop-block : goal.invariant-loop-block
invariant-loop-block l = (reads : List ReadOf) → AreRead l.linked.files reads → AreExtendedRows (flat_map (block_extending l.linked.files reads l.file) (map block_of (take l.block-index l.block-items))) l.rows
