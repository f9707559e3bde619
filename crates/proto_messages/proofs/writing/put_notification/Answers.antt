use Rattle.std.proofs.Common.{refl}
use Rattle.proto_messages.proofs.ObjectMembers.{fills, more}
use Rattle.proto_messages.proofs.writing.put_notification.Goals as goal

pub returns : goal.returns
returns g c = fills (λ empty. more c.put_object.ensures (more c.put_text.ensures (more c.put_version_of_protocol.ensures empty))) refl
