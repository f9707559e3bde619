use Rattle.std.proofs.lemmas.Result.{IfOk-weaker}
use Rattle.proto_messages.proofs.Floats.{failure_plain}
use Rattle.proto_messages.proofs.writing.error_message.Goals as goal

pub returns : goal.returns
returns c = IfOk-weaker c.object_text.result _ _ (λ text is. is (failure_plain _ c.args.code c.args.text.now)) c.object_text.ensures
