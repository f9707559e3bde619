use Rattle.std.proofs.Common.{subst}
use Rattle.proto_edit_rules.specs.Options.{IsOptionWord}
use Rattle.proto_option_values.specs.OptionValues.{IsFirstOf, words_asked}
use Rattle.proto_option_values.proofs.first.option_value.Goals as goal

pub returns-in-None : goal.returns-in-None
returns-in-None c = λ reads are.
    subst (IsFirstOf (IsOptionWord c.args.linked.now.files reads c.args.file (words_asked c.args.words))) c.in-None.is (c.in_ok-word.ensures.first reads are)
