use Rattle.std.proofs.Common.{[], ◌∷◌, map, refl, ap, arith}
use Rattle.proto_base.proofs.Turns.{all_listed, listed_turn}
use Rattle.proto_ast.proofs.Statements.{pushed, pushed_before}
use Rattle.proto_ast.proofs.separated.push_separated.Goals as goal

pub loop-behind-preserved : goal.loop-behind-preserved
loop-behind-preserved g c = listed_turn (map (λ b. b.item)) (λ b. b.item ∷ []) (λ x xs. refl) c.as_slice-behind-items.result.now c.loop-behind.behind-index c.behind-item.result _ _ _ _ c.loop-behind-test.true c.behind-item.is
    (pushed (λ r. r.now) c.loop-behind.found.items c.push-in-loop-behind.new.found.items _ c.in_ok-push-2.ensures) c.loop-behind.invariant

pub loop-behind-init : goal.loop-behind-init
loop-behind-init g c = pushed_before (λ r. r.now) c.args.found.now.items c.push.new.found.items _ _ _ c.in_ok-push.ensures (ap (map (λ b. b.item)) c.as_slice-behind-items.ensures)

pub returns : goal.returns
returns g c = all_listed (map (λ b. b.item)) refl c.as_slice-behind-items.result.now c.loop-behind.behind-index _ _ (omega arith) c.loop-behind.invariant
