use Rattle.std.proofs.Common.{rules}
use Rattle.proto_store.proofs.memory.MemoryStoreStore.read_journal.Goals as goal

pub returns-in-Works-Ok-clause-bytes : goal.returns-in-Works-Ok-clause-bytes
returns-in-Works-Ok-clause-bytes c = search rules
