use Rattle.std.proofs.Common.{rules}
use Rattle.proto_descriptors.proofs.field.Label.name.Goals as goal

pub returns-in-Required : goal.returns-in-Required
returns-in-Required c = search rules
