use Rattle.std.proofs.Common.{rules}
use Rattle.proto_tree.proofs.list.Sequence.push.Goals as goal

pub returns-clause-grown : goal.returns-clause-grown
returns-clause-grown c = search rules
