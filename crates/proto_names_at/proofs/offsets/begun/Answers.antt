use Rattle.std.proofs.Common.{nat_le, rules}
use Rattle.std.proofs.lemmas.List.Sorted.{IsPartitionPoint-from_clause}
use Rattle.proto_names_at.proofs.WordsAt.{are_begun, partitioned}
use Rattle.proto_names_at.proofs.offsets.begun.Goals as goal

pub returns : goal.returns
returns c =
    let tokens = c.args.tokens.now in
    let offset = c.args.offset in
    are_begun tokens offset c.partition_point.result c.partition_point.ensures.bound
    (IsPartitionPoint-from_clause (λ t. nat_le t.span.start offset) tokens c.partition_point.result c.partition_point.ensures.partitioned (partitioned tokens c.requires offset) (λ a r q k. search rules))
