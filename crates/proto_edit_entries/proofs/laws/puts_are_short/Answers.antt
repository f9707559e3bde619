use Rattle.proto_edit_entries.proofs.ShortPuts.{puts_are_short}
use Rattle.proto_edit_entries.proofs.laws.puts_are_short.Goals as goal

pub returns : goal.returns
returns c = puts_are_short
