use Rattle.std.proofs.Common.{refl}
use Rattle.proto_messages.proofs.ObjectMembers.{fills, more}
use Rattle.proto_messages.proofs.writing.AnsweredToJson.put_members.Goals as goal

pub returns : goal.returns
returns c = fills (λ empty. more (c.put-2.ensures _ c.answer_value-result.ensures) (more c.put_version_of_protocol.ensures (more (c.put.ensures _ c.id_value-id.ensures) empty))) refl
