use Rattle.proto_edit_entries.proofs.Walks.{walks_put, puts_are_walked}
use Rattle.proto_edit_entries.proofs.laws.walks_are_puts.Goals as goal

pub returns : goal.returns
returns c = record { by_paths = walks_put; in_order = puts_are_walked }
