use Rattle.std.proofs.Common.{map, flat_map, refl, arith}
use Rattle.proto_ast.specs.Scenes.{text}
use Rattle.proto_edit_rename.specs.Blocks.{block_of}
use Rattle.proto_edit_rename.specs.Defaults.{asked_type, defaults_in}
use Rattle.proto_base.proofs.Turns.{all_listed, given_turn}
use Rattle.proto_edit_rename.proofs.defaults.defaults.Goals as goal

pub loop-block-preserved : goal.loop-block-preserved
loop-block-preserved c = given_turn (defaults_in (text c.args.scene.now) (asked_type c.args.asked.now) c.args.asked.now.old.now) block_of c.args.blocks.now c.loop-block.block-index c.block-item.result _ _ _ _ c.loop-block-test.true c.block-item.is c.in_ok-push_block.ensures c.loop-block.invariant

pub returns : goal.returns
returns c = all_listed (λ bs. flat_map (defaults_in (text c.args.scene.now) (asked_type c.args.asked.now) c.args.asked.now.old.now) (map block_of bs)) refl c.args.blocks.now c.loop-block.block-index _ _ (omega arith) c.loop-block.invariant
