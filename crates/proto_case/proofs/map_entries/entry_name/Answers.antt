use Rattle.std.proofs.Common.{rules}
use Rattle.proto_case.proofs.map_entries.entry_name.Goals as goal

pub returns : goal.returns
returns c = search rules
