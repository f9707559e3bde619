use Rattle.std.proofs.Common.{rules}
use Rattle.proto_lint.proofs.imports.public_target.Goals as goal

pub returns : goal.returns
returns c = search rules
