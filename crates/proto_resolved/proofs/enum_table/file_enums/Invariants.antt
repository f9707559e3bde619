use Rattle.std.proofs.Common.{map, take}
use Rattle.proto_resolved.specs.Common.{AreEnumsOf, block_of}
use Rattle.proto_resolved.proofs.enum_table.file_enums.Given as goal

abbrev pub invariant-loop-block : goal.invariant-loop-block
invariant-loop-block l = AreEnumsOf l.words l.is_proto3 (map block_of (take l.block-index l.block-items)) l.rows
