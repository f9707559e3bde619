use Rattle.std.proofs.Common.{rules}
use Rattle.proto_desc_numbers.proofs.IndexLemmas.{in_order_from_sort}
use Rattle.proto_desc_numbers.proofs.range_index.in_order.Goals as goal

pub returns-clause-order : goal.returns-clause-order
returns-clause-order c = in_order_from_sort _ c.sort_unstable_by_key.ensures.sorted (λ a r q k. search rules)
