use Rattle.std.proofs.Common.{◌≡◌, map, drop}
use Rattle.std.specs.List.{list_any}
use Rattle.proto_edit_rename.specs.MembersCommon.{block_of, reserves}
use Rattle.proto_edit_rename.proofs.reserved.one_reserves.Given as goal

abbrev pub invariant-loop-block : goal.invariant-loop-block
invariant-loop-block l = list_any (reserves l.scene l.token l.word) (map block_of l.blocks) ≡ list_any (reserves l.scene l.token l.word) (map block_of (drop l.block-index l.blocks))
