use Rattle.std.proofs.Common.{ℕ, Some, map, subst, IfOk, Result, Ok, Err, String, Global, string_bytes, BTreeMap, IsPermutation}
use Rattle.proto_base.proofs.Common.{Vec, paths_of}
use Rattle.proto_base.specs.declared.no_memory.NoMemory.{NoMemory}
use Rattle.proto_base.specs.declared.profile.Profile.{Profile}
use Rattle.proto_store.specs.Common.{MemoryOf, files_in}
use Rattle.proto_store.specs.Stores.{AreInPathOrder, ListsPaths}
use Rattle.proto_store.proofs.memory.MemoryStore.paths.Goals as goal

-- paths that are those of the files in either language are so in this one
listed_in : (p : Profile) (files : BTreeMap (String Global) (Vec ℕ)) (r : Result (Vec (String Global)) NoMemory)
    → IfOk r (λ paths. (q : Profile) → AreInPathOrder (files_in q files) × IsPermutation (map string_bytes paths.items) (paths_of (files_in q files)))
    → IfOk r (λ paths. AreInPathOrder (files_in p files) × IsPermutation (map string_bytes paths.items) (paths_of (files_in p files)))
listed_in p files (Ok paths) told = told p
listed_in p files (Err e) told = tt

pub returns : goal.returns
returns c =
    subst (λ (s : MemoryOf). IfOk c.paths_in.result (λ paths. ListsPaths (Some s.held) (map string_bytes paths.items))) c.self.view_is
    (listed_in c.self.inside.profile c.self.inside.files c.paths_in.result c.paths_in.ensures)
