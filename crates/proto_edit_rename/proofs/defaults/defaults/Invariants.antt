use Rattle.std.proofs.Common.{◌≡◌, ◌++◌, map, drop, flat_map}
use Rattle.proto_ast.specs.Scenes.{text}
use Rattle.proto_edit_rename.specs.Blocks.{block_of}
use Rattle.proto_edit_rename.specs.Defaults.{asked_type, defaults_in}
use Rattle.proto_edit_rename.proofs.defaults.defaults.Given as goal

abbrev pub invariant-loop-block : goal.invariant-loop-block
invariant-loop-block l = l.found.items ++ flat_map (defaults_in (text l.scene) (asked_type l.asked) l.asked.old.now) (map block_of (drop l.block-index l.blocks)) ≡ flat_map (defaults_in (text l.scene) (asked_type l.asked) l.asked.old.now) (map block_of l.blocks)
