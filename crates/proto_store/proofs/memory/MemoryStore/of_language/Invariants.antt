use Rattle.std.proofs.Common.{◌≡◌, ℕ, List, reverse}
use Rattle.proto_store.specs.Common.{bytes_at, files_in}
use Rattle.proto_base.specs.GivenFiles.{files_of_as}
use Rattle.proto_store.proofs.memory.MemoryStore.of_language.Given as goal

-- the map holds the latest bytes of each path so far
abbrev pub invariant-loop-path : goal.invariant-loop-path
invariant-loop-path l = (path : List ℕ) → bytes_at path (files_in l.profile l.by_path) ≡ bytes_at path (reverse (files_of_as l.profile l.yielded))
