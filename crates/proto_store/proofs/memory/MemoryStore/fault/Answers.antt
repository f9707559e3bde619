use Rattle.std.proofs.Common.{rules}
use Rattle.proto_store.proofs.memory.MemoryStore.fault.Goals as goal

pub returns : goal.returns
returns c = search rules
