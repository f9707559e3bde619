use Rattle.std.proofs.Common.{map, take}
use Rattle.proto_resolved.specs.Blocks.{block_of}
use Rattle.proto_desc_extensions.specs.Common.{AreRowsOf}
use Rattle.proto_desc_extensions.proofs.open_table.rows_of.Given as goal

abbrev pub invariant-loop-block : goal.invariant-loop-block
invariant-loop-block l = AreRowsOf l.scene (map block_of (take l.block-index l.block-items)) l.rows
