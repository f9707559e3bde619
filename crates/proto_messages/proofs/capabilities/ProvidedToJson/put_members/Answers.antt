use Rattle.std.proofs.Common.{ap, refl}
use Rattle.serde_json.specs.Data.{string}
use Rattle.proto_messages.proofs.ObjectMembers.{fills, more, put_as}
use Rattle.proto_messages.proofs.capabilities.ProvidedToJson.put_members.Goals as goal

pub returns : goal.returns
returns c = fills (λ empty. more c.put_object-2.ensures (more c.put_object.ensures (more c.put_flag-3.ensures (more (put_as c.put_text.ensures (ap string c.encoding_word.ensures)) (more c.put_flag-2.ensures (more c.put_flag.ensures (more (c.put.ensures _ c.code_actions-code_actions.ensures) empty))))))) refl
