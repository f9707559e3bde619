use Rattle.std.proofs.Common.{◌++◌, List, ap, ◌∙◌, subst, Contains}
use Rattle.proto_desc_numbers.specs.Flaws.{IsLeastOfFlaws}
use Rattle.proto_desc_numbers.specs.declared.flaw.Flaw.{Flaw}
use Rattle.proto_desc.proofs.checking.least_flaw.Goals as goal

pub returns : goal.returns
returns c =
    subst (λ (found : List Flaw). IsLeastOfFlaws (Contains found) c.least.result)
    (c.deref.ensures.value ∙ c.in_ok-extend_from_slice.ensures.items ∙ ap (λ (found : List Flaw). found ++ c.args.of_workspace.now) c.in_ok-found.ensures) c.least.ensures
