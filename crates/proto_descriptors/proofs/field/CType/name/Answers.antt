use Rattle.std.proofs.Common.{rules}
use Rattle.proto_descriptors.proofs.field.CType.name.Goals as goal

pub returns-in-Cord : goal.returns-in-Cord
returns-in-Cord c = search rules
