use Rattle.std.proofs.Common.{sym, ◌∙◌}
use Rattle.proto_desc_numbers.proofs.IndexLemmas.{shares_is, is_begun, is_empty}
use Rattle.proto_desc_numbers.proofs.range_index.shares.Goals as goal

pub returns-then-has_numbers : goal.returns-then-has_numbers
returns-then-has_numbers c = λ rs is. c.reach_before.ensures c.args.range ∙ is_begun _ _ (sym c.has_numbers.ensures ∙ c.if-has_numbers.true) ∙ shares_is rs c.args.index.now c.args.range c.args.range c.count_begun-place.result is c.count_begun-place.ensures.bound c.count_begun-place.ensures.place

pub returns-else-has_numbers : goal.returns-else-has_numbers
returns-else-has_numbers c = λ rs is. c.if-has_numbers.false ∙ is_empty _ _ (sym c.has_numbers.ensures ∙ c.if-has_numbers.false) ∙ shares_is rs c.args.index.now c.args.range c.args.range c.count_begun-place.result is c.count_begun-place.ensures.bound c.count_begun-place.ensures.place
