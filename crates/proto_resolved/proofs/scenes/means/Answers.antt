use Rattle.std.proofs.Common.{ap, map, ◌∙◌, arith, take_all}
use Rattle.proto_resolved.proofs.MeantEnums.{means_rise}
use Rattle.proto_resolved.proofs.scenes.means.Goals as goal

pub returns-clause-rising : goal.returns-clause-rising
returns-clause-rising c =
    let all = c.meant_in-reference-items.result.now in
    means_rise c.loop-reference.means.items all (c.loop-reference.invariant.tokens ∙ ap (map (λ m. m.token)) (take_all c.loop-reference.reference-index all (omega (arith, c.loop-reference-test.false)))) c.meant_in-reference-items.ensures.rising
