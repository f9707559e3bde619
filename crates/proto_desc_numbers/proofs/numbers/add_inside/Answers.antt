use Rattle.std.specs.List.{list_any}
use Rattle.proto_base.specs.declared.fault.FaultKind.TheVariants as kind
use Rattle.proto_desc_numbers.specs.NumberFlaws.{is_inside}
use Rattle.proto_desc_numbers.proofs.FlawLists.{flaws_turn, flaws_end}
use Rattle.proto_desc_numbers.proofs.numbers.add_inside.Goals as goal

pub loop-at-preserved : goal.loop-at-preserved
loop-at-preserved c = λ rs is. flaws_turn (λ n. list_any (is_inside n.number) rs) kind.ReservedNumber (λ n. n.token) c.args.numbers.now c.loop-at.at-index _ c.args.found.now.items _ _ _ c.loop-at-test.true (c.loop-at.invariant rs is) (c.is_covered-reserved.ensures rs is) c.in_ok-add_if.ensures

pub returns : goal.returns
returns c = λ rs is. flaws_end (λ n. list_any (is_inside n.number) rs) kind.ReservedNumber (λ n. n.token) c.args.numbers.now c.loop-at.at-index c.args.found.now.items _ c.loop-at-test.false (c.loop-at.invariant rs is)
