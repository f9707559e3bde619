use Rattle.std.proofs.Common.{rules}
use Rattle.proto_store.proofs.memory.MemoryStore.put_file.Goals as goal

pub returns : goal.returns
returns c = search (rules, c.put_bytes.ensures c.self.inside.profile)
