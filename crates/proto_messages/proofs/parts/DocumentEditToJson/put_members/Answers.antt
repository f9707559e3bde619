use Rattle.std.proofs.Common.{List, ap, map, refl}
use Rattle.proto_messages.proofs.ObjectMembers.{fills, more, put_as}
use Rattle.proto_messages.specs.Results.{array_of, text_edit_data}
use Rattle.proto_messages.proofs.parts.DocumentEditToJson.put_members.Goals as goal

pub returns : goal.returns
returns c = fills (λ empty. more c.put_object.ensures (more (put_as c.put_array.ensures (ap (λ (edits : List _). array_of (map text_edit_data edits)) c.deref.ensures.value)) empty)) refl
