use Rattle.std.proofs.Common.{[], ◌∷◌, map, refl, arith}
use Rattle.proto_base.proofs.Turns.{all_listed, listed_turn}
use Rattle.proto_custom_options.proofs.option_words.push_path.Goals as goal

pub loop-behind-preserved : goal.loop-behind-preserved
loop-behind-preserved c = listed_turn (map (λ b. b.item)) (λ b. b.item ∷ []) (λ x xs. refl) c.args.path.now c.loop-behind.behind-index _ _ _ _ _ c.loop-behind-test.true refl c.in_ok-push.ensures c.loop-behind.invariant

pub returns : goal.returns
returns c = all_listed (map (λ b. b.item)) refl c.args.path.now c.loop-behind.behind-index _ _ (omega arith) c.loop-behind.invariant
