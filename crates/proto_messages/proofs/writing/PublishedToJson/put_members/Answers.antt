use Rattle.std.proofs.Common.{List, ap, map}
use Rattle.serde_json.specs.Data.{string}
use Rattle.proto_messages.proofs.ObjectMembers.{more, put_as, version_put}
use Rattle.proto_messages.specs.Results.{array_of, diagnostic_data}
use Rattle.proto_messages.proofs.writing.PublishedToJson.put_members.Goals as goal

pub returns : goal.returns
returns c =
    let list = put_as c.put_array.ensures (ap (λ (all : List _). array_of (map diagnostic_data all)) c.deref.ensures.value) in
    let uri = put_as c.put_text.ensures (ap string c.as_str.ensures.value) in
    version_put _ _ c.args.self.now.document.now.version c.put_version.ensures (λ empty. more uri (more list empty))
