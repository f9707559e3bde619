use Rattle.std.proofs.Common.{rules}
use Rattle.proto_store.proofs.memory.MemoryStore.put_journal.Goals as goal

pub returns : goal.returns
returns c = search rules
