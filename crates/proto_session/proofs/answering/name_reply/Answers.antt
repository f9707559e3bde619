use Rattle.std.proofs.Common.{refl}
use Rattle.proto_messages.specs.declared.results.Answer.TheVariants as answer
use Rattle.proto_session_files.specs.Views.{view_at}
use Rattle.proto_session_replies.specs.declared.reply.Reply.TheVariants.{Result}
use Rattle.proto_session.proofs.RequestTurns.{unnamed_null}
use Rattle.proto_session.proofs.answering.name_reply.Goals as goal

pub returns-in_default : goal.returns-in_default
returns-in_default c = unnamed_null (view_at c.args.view.now) c.args.asked.now (Result answer.Null) c.in_default.not-Definition c.in_default.not-References c.in_default.not-DocumentSymbol c.in_default.not-PrepareRename refl
