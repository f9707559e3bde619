use Rattle.std.proofs.Common.{ap, refl}
use Rattle.serde_json.specs.Data.{string}
use Rattle.proto_messages.proofs.ObjectMembers.{fills, more, put_as}
use Rattle.proto_messages.specs.Results.{edits_data}
use Rattle.proto_messages.proofs.parts.CodeActionToJson.put_members.Goals as goal

pub returns : goal.returns
returns c = fills (λ empty. more (put_as c.put_text-2.ensures (ap string c.as_str.ensures.value)) (more (put_as c.put_text.ensures (ap string c.action_word.ensures)) (more (put_as c.put_object.ensures (ap edits_data c.deref.ensures.value)) empty))) refl
