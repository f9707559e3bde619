use Rattle.std.proofs.Common.{ap, refl}
use Rattle.serde_json.specs.Data.{string}
use Rattle.proto_messages.proofs.ObjectMembers.{fills, more, put_as}
use Rattle.proto_messages.proofs.parts.LocationToJson.put_members.Goals as goal

pub returns : goal.returns
returns c = fills (λ empty. more (put_as c.put_text.ensures (ap string c.as_str.ensures.value)) (more c.put_object.ensures empty)) refl
