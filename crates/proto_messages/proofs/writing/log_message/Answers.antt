use Rattle.std.proofs.lemmas.Result.{IfOk-weaker}
use Rattle.proto_messages.proofs.Floats.{logged_plain}
use Rattle.proto_messages.proofs.writing.log_message.Goals as goal

pub returns : goal.returns
returns c = IfOk-weaker c.object_text.result _ _ (λ text is. is (logged_plain c.args.kind c.args.text.now)) c.object_text.ensures
