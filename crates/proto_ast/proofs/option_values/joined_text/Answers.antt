use Rattle.std.proofs.Common.{flat_map, refl, arith}
use Rattle.proto_ast.specs.Scenes.{value}
use Rattle.proto_base.proofs.Turns.{all_listed, listed_turn}
use Rattle.proto_ast.proofs.option_values.joined_text.Goals as goal

pub loop-token-preserved : goal.loop-token-preserved
loop-token-preserved c = listed_turn (flat_map (value c.args.scene.now)) (value c.args.scene.now) (λ x xs. refl) c.as_slice-token-items.result.now c.loop-token.token-index _ _ _ _ _ c.loop-token-test.true refl c.in_ok-push_string.ensures c.loop-token.invariant

pub returns : goal.returns
returns c = all_listed (flat_map (value c.args.scene.now)) refl c.as_slice-token-items.result.now c.loop-token.token-index _ _ (omega arith) c.loop-token.invariant
