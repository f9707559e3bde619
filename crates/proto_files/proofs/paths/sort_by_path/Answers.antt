use Rattle.std.proofs.Common.{rules}
use Rattle.std.proofs.lemmas.List.Sorted.{answers_always}
use Rattle.proto_files.proofs.NamedLists.{is_named_before, named_before_ranks, in_order_from_sort}
use Rattle.proto_files.proofs.paths.sort_by_path.Goals as goal

pub returns-clause-in_order : goal.returns-clause-in_order
returns-clause-in_order c =
    in_order_from_sort _ (c.sort_unstable_by.ensures.sorted is_named_before named_before_ranks (answers_always _ _ _ (λ f a r f' k. search rules)))
