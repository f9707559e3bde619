use Rattle.std.proofs.Common.{◌≡◌, ◌++◌, map, string_bytes}
use Rattle.std.specs.BTreeMap.{keys}
use Rattle.proto_store.proofs.memory.paths_in.Given as goal

-- the paths so far and the keys that are left are all keys
abbrev pub invariant-loop-path : goal.invariant-loop-path
invariant-loop-path l = map string_bytes l.paths.items ++ map string_bytes l.path-iterator ≡ map string_bytes (keys l.files)
