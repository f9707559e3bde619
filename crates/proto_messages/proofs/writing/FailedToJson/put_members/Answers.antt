use Rattle.std.proofs.Common.{refl}
use Rattle.proto_messages.proofs.ObjectMembers.{fills, more}
use Rattle.proto_messages.proofs.writing.FailedToJson.put_members.Goals as goal

pub returns : goal.returns
returns c = fills (λ empty. more c.put_version_of_protocol.ensures (more (c.put.ensures _ c.answered_id-id.ensures) (more c.put_object.ensures empty))) refl
