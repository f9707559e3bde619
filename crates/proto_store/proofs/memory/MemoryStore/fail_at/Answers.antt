use Rattle.std.proofs.Common.{rules}
use Rattle.proto_store.proofs.memory.MemoryStore.fail_at.Goals as goal

pub returns : goal.returns
returns c = search rules
