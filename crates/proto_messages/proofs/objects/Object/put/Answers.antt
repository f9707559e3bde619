use Rattle.serde_json.specs.View.{members_view}
use Rattle.proto_messages.proofs.ObjectMembers.{none_there, put_there}
use Rattle.proto_messages.proofs.objects.Object.put.Goals as goal

pub returns-in-Ok : goal.returns-in-Ok
returns-in-Ok c = λ d seen. put_there c.args.self.now.is_refused (members_view c.args.self.now.members.entries) _ (c.in-Ok.ensures d seen)

pub returns-in-Err : goal.returns-in-Err
returns-in-Err c = λ d seen. none_there
