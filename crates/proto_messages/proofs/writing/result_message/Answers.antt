use Rattle.std.proofs.lemmas.Result.{IfOk-weaker}
use Rattle.proto_messages.proofs.Floats.{result_plain}
use Rattle.proto_messages.specs.Messages.{id_view}
use Rattle.proto_messages.proofs.writing.result_message.Goals as goal

pub returns : goal.returns
returns c = IfOk-weaker c.object_text.result _ _ (λ text is. is (result_plain (id_view c.args.id.now) c.args.answer.now)) c.object_text.ensures
