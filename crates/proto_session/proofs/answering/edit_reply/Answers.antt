use Rattle.std.proofs.Common.{refl}
use Rattle.proto_messages.specs.declared.results.Answer.TheVariants as answer
use Rattle.proto_session_files.specs.Views.{view_at}
use Rattle.proto_session_replies.specs.declared.reply.Reply.TheVariants.{Result}
use Rattle.proto_session.proofs.RequestTurns.{unedited_null}
use Rattle.proto_session.proofs.answering.edit_reply.Goals as goal

pub returns-in_default : goal.returns-in_default
returns-in_default c = unedited_null (view_at c.args.view.now) c.args.asked.now (Result answer.Null) c.in_default.not-Rename c.in_default.not-CodeAction refl
