use Rattle.std.proofs.Common.{◌≡◌, ◌++◌, map, string_bytes}
use Rattle.std.specs.Vec.Iter.{into_iter_items}
use Rattle.proto_store.proofs.Loading.{Loads}
use Rattle.proto_journal.proofs.Gathered.{names_of}
use Rattle.proto_journal.proofs.gathering.read_files.Given as goal

abbrev pub invariant-loop-path : goal.invariant-loop-path
invariant-loop-path g l = record {
  so_far : Loads (g.S.Store.holds l.initial.store) l.files.items (into_iter_items l.path-iterator);
  paths : names_of l.files.items ++ map string_bytes (into_iter_items l.path-iterator) ≡ map string_bytes l.fn.paths.items;
  same : g.S.Store.holds l.store ≡ g.S.Store.holds l.initial.store;
  count : g.S.Store.failure_count l.store ≡ g.S.Store.failure_count l.initial.store;
}
