use Rattle.std.proofs.Common.{not, rules, ap, ◌∙◌}
use Rattle.proto_base.specs.declared.fault.FaultKind.TheVariants as kind
use Rattle.proto_desc_numbers.specs.NumberFlaws.{is_value_number}
use Rattle.proto_desc_numbers.proofs.FlawLists.{flaws_turn, flaws_end}
use Rattle.proto_desc_numbers.proofs.numbers.add_outside_values.Goals as goal

pub loop-at-preserved : goal.loop-at-preserved
loop-at-preserved c = flaws_turn (λ n. not (is_value_number n.number)) kind.NumberRange (λ n. n.token) c.args.numbers.now c.loop-at.at-index _ c.args.found.now.items _ _ _ c.loop-at-test.true c.loop-at.invariant (ap not (c.is_within-is_outside.ensures ∙ search rules)) c.in_ok-add_if.ensures

pub returns : goal.returns
returns c = flaws_end (λ n. not (is_value_number n.number)) kind.NumberRange (λ n. n.token) c.args.numbers.now c.loop-at.at-index c.args.found.now.items _ c.loop-at-test.false c.loop-at.invariant
