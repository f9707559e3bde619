use Rattle.std.proofs.Common.{rules}
use Rattle.proto_tree.proofs.words.may_name_value.Goals as goal

pub returns : goal.returns
returns c = search rules
