use Rattle.std.proofs.Common.{sym, ◌∙◌}
use Rattle.proto_desc_numbers.proofs.FlawLists.{known_or, or_known}
use Rattle.proto_desc_numbers.proofs.numbers.shares_again.Goals as goal

pub returns-then-shares : goal.returns-then-shares
returns-then-shares c = λ rs is. c.if-shares.true ∙ known_or _ c.args.is_known (sym (c.shares.ensures rs is) ∙ c.if-shares.true)

pub returns-else-shares : goal.returns-else-shares
returns-else-shares c = λ rs is. or_known _ c.args.is_known (sym (c.shares.ensures rs is) ∙ c.if-shares.false)
