use Rattle.std.proofs.Common.{rules}
use Rattle.proto_descriptors.proofs.file.OptimizeMode.name.Goals as goal

pub returns-in-CodeSize : goal.returns-in-CodeSize
returns-in-CodeSize c = search rules
