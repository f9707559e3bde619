use Rattle.std.proofs.Common.{rules}
use Rattle.proto_edit_rename.proofs.defaults.is_asked.Goals as goal

pub returns-in-Reference : goal.returns-in-Reference
returns-in-Reference c = search rules
