use Rattle.std.proofs.Common.{refl}
use Rattle.proto_messages.proofs.ObjectMembers.{fills, more}
use Rattle.proto_messages.proofs.parts.PositionToJson.put_members.Goals as goal

pub returns : goal.returns
returns c = fills (λ empty. more c.put_number-2.ensures (more c.put_number.ensures empty)) refl
