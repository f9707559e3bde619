use Rattle.std.proofs.Common.{◌≡◌, map, drop}
use Rattle.std.specs.List.{list_any}
use Rattle.proto_edit_rename.proofs.Common.{block_of, clash_in}
use Rattle.proto_edit_rename.proofs.json_names.one_clashes.Given as goal

abbrev pub invariant-loop-block : goal.invariant-loop-block
invariant-loop-block l = list_any (clash_in l.scene l.token l.name) (map block_of l.blocks) ≡ list_any (clash_in l.scene l.token l.name) (map block_of (drop l.block-index l.blocks))
