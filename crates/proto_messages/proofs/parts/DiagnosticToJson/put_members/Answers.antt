use Rattle.std.proofs.Common.{ap, refl}
use Rattle.serde_json.specs.Data.{string}
use Rattle.proto_messages.proofs.ObjectMembers.{fills, more, put_as}
use Rattle.proto_messages.specs.Results.{natural}
use Rattle.proto_messages.proofs.parts.DiagnosticToJson.put_members.Goals as goal

pub returns : goal.returns
returns c = fills (λ empty. more c.put_text-3.ensures (more (put_as c.put_number.ensures (ap natural c.severity_number.ensures)) (more c.put_object.ensures (more (put_as c.put_text-2.ensures (ap string c.as_str-2.ensures.value)) (more (put_as c.put_text.ensures (ap string c.as_str.ensures.value)) empty))))) refl
