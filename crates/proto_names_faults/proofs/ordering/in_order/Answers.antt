use Rattle.std.proofs.Common.{is_lt, rules}
use Rattle.proto_base.proofs.Common.{ranks_by}
use Rattle.std.proofs.lemmas.Fn.{dedup_same}
use Rattle.std.proofs.lemmas.List.Sorted.{answers_always}
use Rattle.proto_files.proofs.OneLeast.{fault_cmp_total}
use Rattle.proto_files.specs.Common.{fault_at}
use Rattle.proto_names_faults.proofs.InOrder.{compares, is_one, sorted_rise, sorted_same}
use Rattle.proto_names_faults.proofs.ordering.in_order.Goals as goal

pub returns-clause-rising : goal.returns-clause-rising
returns-clause-rising c =
    let kept = dedup_same _ is_one _ (λ x y b f' x' y' k. search rules) _ _ c.dedup_by.ensures.filtered in
    let sorted = c.sort_unstable_by.ensures.sorted (λ x y. is_lt (compares x y)) (ranks_by fault_cmp_total fault_at) (answers_always _ _ _ (λ f a r f' k. search rules)) in
    rw kept (sorted_rise _ sorted)

pub returns-clause-same : goal.returns-clause-same
returns-clause-same c = λ x.
    (let kept = dedup_same _ is_one _ (λ x y b f' x' y' k. search rules) _ _ c.dedup_by.ensures.filtered in
    rw kept (sorted_same c.args.faults.items c.sort_unstable_by.new.self.items c.sort_unstable_by.ensures.permutation x))
