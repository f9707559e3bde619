use Rattle.std.proofs.Common.{rules}
use Rattle.proto_edit_entries.proofs.refusal.Refusal.number.Goals as goal

pub returns-in-Stale : goal.returns-in-Stale
returns-in-Stale c = search rules
