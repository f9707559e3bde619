use Rattle.std.proofs.Common.{rules}
use Rattle.proto_descriptors.proofs.service.IdempotencyLevel.name.Goals as goal

pub returns-in-Idempotent : goal.returns-in-Idempotent
returns-in-Idempotent c = search rules
