use Rattle.std.proofs.Common.{Some, subst}
use Rattle.proto_store.specs.Common.{MemoryOf}
use Rattle.proto_store.specs.Stores.{AreOf}
use Rattle.proto_store.proofs.Entries.{given_in}
use Rattle.proto_store.proofs.memory.MemoryStoreStore.profile.Goals as goal

pub returns-clause-files : goal.returns-clause-files
returns-clause-files c = subst (λ (s : MemoryOf). AreOf c.self.inside.profile (Some s.held)) c.self.view_is (given_in c.self.inside.profile c.self.inside.files.entries)
