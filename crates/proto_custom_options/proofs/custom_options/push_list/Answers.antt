use Rattle.std.proofs.Common.{map, refl, flat_map, arith}
use Rattle.proto_base.proofs.Turns.{all_listed, listed_turn}
use Rattle.proto_custom_options.specs.CustomOptions.{setting_customs}
use Rattle.proto_custom_options.proofs.custom_options.push_list.Goals as goal

pub loop-behind-preserved : goal.loop-behind-preserved
loop-behind-preserved c = listed_turn (λ bs. flat_map (setting_customs c.args.message.now) (map (λ b. b.item) bs)) (λ b. setting_customs c.args.message.now b.item) (λ x xs. refl) c.as_slice-behind-items.result.now c.loop-behind.behind-index c.behind-item.result _ _ _ _ c.loop-behind-test.true c.behind-item.is
    c.in_ok-push_setting-2.ensures c.loop-behind.invariant

pub returns : goal.returns
returns c = all_listed (λ bs. flat_map (setting_customs c.args.message.now) (map (λ b. b.item) bs)) refl c.as_slice-behind-items.result.now c.loop-behind.behind-index _ _ (omega arith) c.loop-behind.invariant
