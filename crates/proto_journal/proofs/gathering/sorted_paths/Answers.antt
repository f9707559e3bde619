use Rattle.std.proofs.Common.{Option, map, string_bytes}
use Rattle.proto_store.specs.Stores.{Held, ListsPaths}
use Rattle.proto_journal.proofs.Gathered.{in_order}
use Rattle.proto_journal.proofs.gathering.sorted_paths.Goals as goal

pub returns-clause-paths : goal.returns-clause-paths
returns-clause-paths g c =
    let held : Option Held = g.S.Store.holds c.args.store.now in
    let listed : ListsPaths held (map string_bytes c.in_ok-paths.paths.items) = c.in_ok-paths.ensures.paths in
    in_order held c.in_ok-paths.paths.items c.sort_unstable.new.self.items listed c.sort_unstable.ensures.permutation c.sort_unstable.ensures.sorted
