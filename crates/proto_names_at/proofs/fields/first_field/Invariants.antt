use Rattle.std.proofs.Common.{◌≡◌, map, drop}
use Rattle.proto_ast.specs.Scenes.{text}
use Rattle.proto_resolved.specs.Blocks.{block_of}
use Rattle.proto_names_at.specs.Defaults.{first_field}
use Rattle.proto_names_at.proofs.fields.first_field.Given as goal

abbrev pub invariant-loop-block : goal.invariant-loop-block
invariant-loop-block l = first_field (text l.scene) l.token (map block_of l.blocks) ≡ first_field (text l.scene) l.token (map block_of (drop l.block-index l.blocks))
