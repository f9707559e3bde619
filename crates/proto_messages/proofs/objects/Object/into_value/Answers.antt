use Rattle.std.proofs.Common.{Bool, None, Some, ap, if◌then◌else◌}
use Rattle.serde_json.proofs.Views.{view-Object}
use Rattle.serde_json.specs.View.{members_view}
use Rattle.proto_messages.proofs.objects.Object.into_value.Goals as goal

pub returns : goal.returns
returns c =
    let members = members_view c.args.self.members.entries in
    (members, ap (λ (b : Bool). if b then None else Some members) c.if-self.false, view-Object c.args.self.members)
