use Rattle.proto_edit_entries.proofs.Puts.{puts_are_once}
use Rattle.proto_edit_entries.proofs.Walks.{puts_keep_paths}
use Rattle.proto_edit_entries.proofs.laws.puts_are_once.Goals as goal

pub returns : goal.returns
returns c = record { once = puts_are_once; paths = puts_keep_paths }
