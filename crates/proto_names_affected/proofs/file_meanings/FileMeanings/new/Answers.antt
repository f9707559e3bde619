use Rattle.std.proofs.Common.{◌≡◌, ◌<◌, false, replicate, [], sym, subst, arith, rules}
use Rattle.proto_names_affected.specs.FileMeanings.{AreBegun}
use Rattle.proto_names_affected.proofs.Begun.{begun_none}
use Rattle.proto_names_affected.proofs.file_meanings.FileMeanings.new.Goals as goal

pub invariant_of-result : goal.invariant_of-result
invariant_of-result c =
    let n = c.saturating_add.result in
    let some : 0 < n = omega (arith, c.saturating_add.ensures) in
    let none : c.in_ok-begun.begun.items ≡ replicate n false = search rules in
    subst (AreBegun c.in_ok-begun.begun.items) (sym c.in_ok-list.ensures.items)
    (subst (λ begun. AreBegun begun []) (sym none) (begun_none n some))
