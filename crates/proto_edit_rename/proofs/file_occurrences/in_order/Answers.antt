use Rattle.std.proofs.lemmas.List.Filters.{dedup_is}
use Rattle.std.proofs.lemmas.List.Kept.{AllPairs-from_increasing, Contains-dedup_nat, Contains-from_dedup}
use Rattle.std.proofs.lemmas.List.Sorted.{Contains-permutation, IsPermutation-sym}
use Rattle.std.proofs.lemmas.Map.Keys.{IsStrictlyIncreasing-dedup}
use Rattle.proto_edit_rename.proofs.file_occurrences.in_order.Goals as goal

pub returns-clause-rising : goal.returns-clause-rising
returns-clause-rising c =
    let is = dedup_is _ _ _ c.dedup.ensures.filtered in
    rw is (AllPairs-from_increasing _ (IsStrictlyIncreasing-dedup _ c.sort_unstable.ensures.sorted))

pub returns-clause-same : goal.returns-clause-same
returns-clause-same c = λ i.
    (let is = dedup_is _ _ _ c.dedup.ensures.filtered in
    let moved = c.sort_unstable.ensures.permutation in (
      λ h. Contains-permutation _ _ i (IsPermutation-sym _ _ moved) (Contains-from_dedup _ _ i (rw is at h)),
      λ h. rw is (Contains-dedup_nat _ i (Contains-permutation _ _ i moved h)),
    ))
