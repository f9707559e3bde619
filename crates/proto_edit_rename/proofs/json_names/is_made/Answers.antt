use Rattle.std.proofs.Common.{rules}
use Rattle.proto_edit_rename.proofs.json_names.is_made.Goals as goal

pub returns : goal.returns
returns c = search rules
