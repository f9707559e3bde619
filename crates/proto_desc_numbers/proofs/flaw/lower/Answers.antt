use Rattle.std.proofs.Common.{subst, sym, ◌∙◌, Contains}
use Rattle.proto_desc_numbers.specs.Flaws.{IsLeastOfFlaws}
use Rattle.proto_desc_numbers.proofs.FlawLists.{first_is_least, lower_is_least, least_stays}
use Rattle.proto_desc_numbers.proofs.flaw.lower.Goals as goal

pub returns-then-comes_before : goal.returns-then-comes_before
returns-then-comes_before c = λ others h. lower_is_least others c.in-Some.other c.args.flaw (subst (IsLeastOfFlaws (Contains others)) c.in-Some.is h) (sym c.comes_before.ensures ∙ c.if-comes_before.true)

pub returns-else-comes_before : goal.returns-else-comes_before
returns-else-comes_before c = λ others h. least_stays others c.in-Some.other c.args.flaw (subst (IsLeastOfFlaws (Contains others)) c.in-Some.is h) (sym c.comes_before.ensures ∙ c.if-comes_before.false)

pub returns-in-None : goal.returns-in-None
returns-in-None c = λ others h. first_is_least others c.args.flaw (subst (IsLeastOfFlaws (Contains others)) c.in-None.is h)
