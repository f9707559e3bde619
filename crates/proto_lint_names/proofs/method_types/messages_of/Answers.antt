use Rattle.std.proofs.Common.{◌∙◌}
use Rattle.std.proofs.lemmas.Result.{IfOk-weaker}
use Rattle.proto_lint_names.proofs.method_types.messages_of.Goals as goal

pub returns : goal.returns
returns c = IfOk-weaker c.new.result _ _ (λ m is reads are. is ∙ c.in_ok-all.ensures reads are) c.new.ensures
