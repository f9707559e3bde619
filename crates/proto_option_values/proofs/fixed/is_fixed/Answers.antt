use Rattle.std.proofs.Common.{sym, ◌∙◌}
use Rattle.proto_option_values.proofs.FixedNames.{fixed_with, fixed_without}
use Rattle.proto_option_values.proofs.fixed.is_fixed.Goals as goal

pub returns-then-is_empty : goal.returns-then-is_empty
returns-then-is_empty c = λ words plain e. c.if-is_empty.true ∙ sym (fixed_without c.args.name.now (sym c.is_empty.ensures ∙ c.if-is_empty.true) words plain e)

pub returns-else-is_empty : goal.returns-else-is_empty
returns-else-is_empty c = fixed_with c.args.name.now (sym c.is_empty.ensures ∙ c.if-is_empty.false) c.is_fixed_with_words.result c.is_fixed_with_words.ensures
