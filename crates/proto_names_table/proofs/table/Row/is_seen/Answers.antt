use Rattle.std.proofs.Common.{rules}
use Rattle.proto_names_table.proofs.table.Row.is_seen.Goals as goal

pub returns-else-contains : goal.returns-else-contains
returns-else-contains c = search rules
