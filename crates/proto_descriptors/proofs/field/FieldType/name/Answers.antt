use Rattle.std.proofs.Common.{rules}
use Rattle.proto_descriptors.proofs.field.FieldType.name.Goals as goal

pub returns-in-Sint32 : goal.returns-in-Sint32
returns-in-Sint32 c = search rules
