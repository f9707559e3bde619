use Rattle.std.proofs.Common.{ap, refl}
use Rattle.proto_messages.proofs.ObjectMembers.{fills, more, put_as}
use Rattle.proto_messages.specs.Results.{natural}
use Rattle.proto_messages.proofs.writing.UserMessageToJson.put_members.Goals as goal

pub returns : goal.returns
returns c = fills (λ empty. more (put_as c.put_number.ensures (ap natural c.type_number.ensures)) (more c.put_text.ensures empty)) refl
