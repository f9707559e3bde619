use Rattle.std.proofs.Common.{rules}
use Rattle.proto_names_update.proofs.renewed_names.stands_at.Goals as goal

pub returns-then-place-rows : goal.returns-then-place-rows
returns-then-place-rows c = search rules
