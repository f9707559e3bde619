use Rattle.std.proofs.Common.{rules}
use Rattle.proto_edit_entries.proofs.refusal.Refusal.name.Goals as goal

pub returns-in-Captured : goal.returns-in-Captured
returns-in-Captured c = search rules
