use Rattle.std.proofs.Common.{rules, int_le}
use Rattle.std.proofs.lemmas.List.Sorted.{IsPartitionPoint-from_clause}
use Rattle.proto_desc_numbers.proofs.IndexLemmas.{partitioned}
use Rattle.proto_desc_numbers.proofs.range_index.count_begun.Goals as goal

pub returns-clause-place : goal.returns-clause-place
returns-clause-place c = λ up. IsPartitionPoint-from_clause (λ r. int_le r.first c.args.range.last) c.args.index.now c.partition_point.result c.partition_point.ensures.partitioned (partitioned c.args.index.now c.args.range.last up) (λ a r q k. search rules)
