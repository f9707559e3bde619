use Rattle.std.proofs.Common.{refl}
use Rattle.proto_messages.proofs.ObjectMembers.{fills, more}
use Rattle.proto_messages.proofs.writing.FaultToJson.put_members.Goals as goal

pub returns : goal.returns
returns c = fills (λ empty. more c.put_text.ensures (more (c.put.ensures _ c.code_value.ensures) empty)) refl
