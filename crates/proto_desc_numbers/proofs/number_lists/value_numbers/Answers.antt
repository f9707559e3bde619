use Rattle.std.proofs.Common.{[], ◌∷◌, ◌++◌, ap, ◌∙◌}
use Rattle.proto_desc_numbers.specs.Common.{NumberAt, number_of_value}
use Rattle.proto_base.proofs.Turns.{listed_more, listed_all}
use Rattle.proto_desc_numbers.proofs.number_lists.value_numbers.Goals as goal

pub loop-value-preserved : goal.loop-value-preserved
loop-value-preserved c =
    listed_more (number_of_value c.args.scene.now) (λ v. v.now) c.args.values.now c.loop-value.value-index c.value-item.result c.value-item.result c.loop-value.numbers.items _ c.loop-value-test.true c.value-item.is
    (c.in_ok-push.ensures.items ∙ ap (λ (one : NumberAt). c.loop-value.numbers.items ++ one ∷ []) c.number_of_value.ensures)
    c.loop-value.invariant

pub returns : goal.returns
returns c = listed_all (number_of_value c.args.scene.now) (λ v. v.now) c.args.values.now c.loop-value.value-index c.loop-value.numbers.items c.loop-value-test.false c.loop-value.invariant
