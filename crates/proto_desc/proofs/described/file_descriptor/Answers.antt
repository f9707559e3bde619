use Rattle.std.proofs.Common.{rules}
use Rattle.proto_desc.proofs.described.file_descriptor.Goals as goal

pub returns : goal.returns
returns c = search rules
