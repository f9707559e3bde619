use Rattle.std.proofs.Common.{List, [], subst, sym, refl, take_all}
use Rattle.proto_ast.specs.declared.ranges.RangeAt.{RangeAt}
use Rattle.proto_desc_numbers.specs.RangeIndex.{AreRaised}
use Rattle.proto_desc_numbers.proofs.IndexLemmas.{none_raised, raised_turn, most_turn}
use Rattle.proto_desc_numbers.proofs.range_index.raised_ranges.Goals as goal

pub loop-range-init : goal.loop-range-init
loop-range-init c = record { raised = subst (AreRaised []) (sym c.new-raised.ensures.items) none_raised; most = λ n. refl }

pub loop-range-preserved : goal.loop-range-preserved
loop-range-preserved c = record {
  raised = raised_turn c.args.ranges.now c.loop-range.range-index _ c.loop-range.raised.items c.push.new.self.items c.raised_range-next.result c.loop-range.before c.loop-range-test.true c.loop-range.invariant.raised c.loop-range.invariant.most c.in_ok-push.ensures.items c.raised_range-next.ensures.first c.raised_range-next.ensures.last;
  most = most_turn c.args.ranges.now c.loop-range.range-index _ c.raised_range-next.result c.loop-range.before c.loop-range-test.true c.loop-range.invariant.most c.raised_range-next.ensures.last;
}

pub returns : goal.returns
returns c = subst (λ (rs : List RangeAt). AreRaised rs c.loop-range.raised.items) (take_all c.loop-range.range-index c.args.ranges.now c.loop-range-test.false) c.loop-range.invariant.raised
