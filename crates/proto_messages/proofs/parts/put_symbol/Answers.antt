use Rattle.std.proofs.Common.{ap, refl}
use Rattle.serde_json.specs.Data.{string}
use Rattle.serde_json.specs.View.{view}
use Rattle.proto_messages.proofs.ObjectMembers.{fills, more, put_as}
use Rattle.proto_messages.specs.Results.{natural}
use Rattle.proto_messages.proofs.parts.put_symbol.Goals as goal

pub returns : goal.returns
returns c = fills (λ empty. more c.put_object-2.ensures (more c.put_object.ensures (more (put_as c.put_text.ensures (ap string c.as_str.ensures.value)) (more (put_as c.put_number.ensures (ap natural c.kind_number.ensures)) (more (c.put.ensures (view c.args.children) refl) empty))))) refl
