use Rattle.std.proofs.lemmas.Result.{IfOk-weaker}
use Rattle.proto_messages.proofs.Floats.{published_plain}
use Rattle.proto_messages.proofs.writing.diagnostics_message.Goals as goal

pub returns : goal.returns
returns c = IfOk-weaker c.object_text.result _ _ (λ text is. is (published_plain c.args.document.now)) c.object_text.ensures
