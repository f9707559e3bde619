use Rattle.std.proofs.Common.{rules}
use Rattle.proto_edit_entries.proofs.entry.Entry.changes.Goals as goal

pub returns-clause-items : goal.returns-clause-items
returns-clause-items c = search rules

pub returns-clause-entry : goal.returns-clause-entry
returns-clause-entry c = search rules
