use Rattle.std.proofs.Common.{rules}
use Rattle.proto_tree.proofs.words.is_listed.Goals as goal

pub returns : goal.returns
returns c = search rules
