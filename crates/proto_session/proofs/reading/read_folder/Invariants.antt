use Rattle.std.proofs.Common.{◌≡◌}
use Rattle.std.specs.Vec.Iter.{into_iter_items}
use Rattle.proto_store.proofs.Loading.{Loads}
use Rattle.proto_session.proofs.reading.read_folder.Given as goal

abbrev pub invariant-loop-path : goal.invariant-loop-path
invariant-loop-path g l = record {
  so_far : Loads (g.S.Store.holds l.initial.store) l.files.items (into_iter_items l.path-iterator);
  same : g.S.Store.holds l.store ≡ g.S.Store.holds l.initial.store;
  count : g.S.Store.failure_count l.store ≡ g.S.Store.failure_count l.initial.store;
}
