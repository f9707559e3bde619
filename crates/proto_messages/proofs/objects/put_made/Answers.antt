use Rattle.std.proofs.Common.{ap, ◌∙◌}
use Rattle.std.proofs.lemmas.Result.{on_ok_weaker}
use Rattle.serde_json.specs.View.{view}
use Rattle.serde_json.specs.Data.{Data, put}
use Rattle.serde_json.specs.View.{members_view}
use Rattle.proto_messages.proofs.ObjectMembers.{seen_where_made}
use Rattle.proto_messages.proofs.objects.put_made.Goals as goal

pub returns-in-Ok : goal.returns-in-Ok
returns-in-Ok c =
    on_ok_weaker c.put.result (λ is d seen. is ∙ ap (λ (e : Data). put c.args.key.now e (members_view c.args.members.now.entries)) (seen_where_made c.args.value c.in-Ok.value c.in-Ok.is seen))
    c.put.ensures.ok
