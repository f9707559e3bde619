use Rattle.std.proofs.Common.{◌∙◌, rules}
use Rattle.std.proofs.lemmas.List.Sorted.{IsPartitionPoint-from_clause}
use Rattle.proto_lint_names.proofs.Twice.{is_below, next_decides, next_is_none, parted}
use Rattle.proto_lint_names.proofs.shared.stands_twice.Goals as goal

pub returns-in-Some : goal.returns-in-Some
returns-in-Some c =
    let name = c.args.name.now in
    let names = c.args.sorted.now in
    let point = IsPartitionPoint-from_clause (λ s. is_below s.now name) _ _ c.partition_point-first.ensures.partitioned (parted (λ s. s.now) name names c.requires) (λ a r q k. search rules) in
    let lookup = c.in-Some.ensures.lookup in
    c.eq.ensures ∙ next_decides (λ s. s.now) name names c.partition_point-first.result c.in-Some.second.now c.requires point lookup.3.0 lookup.1

pub returns-in-None : goal.returns-in-None
returns-in-None c =
    let name = c.args.name.now in
    let names = c.args.sorted.now in
    let point = IsPartitionPoint-from_clause (λ s. is_below s.now name) _ _ c.partition_point-first.ensures.partitioned (parted (λ s. s.now) name names c.requires) (λ a r q k. search rules) in
    next_is_none (λ s. s.now) name names c.partition_point-first.result point c.partition_point-first.ensures.bound c.in-None.ensures.lookup.3
