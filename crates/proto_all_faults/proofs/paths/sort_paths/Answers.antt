use Rattle.proto_all_faults.proofs.PathLists.{in_order_from_sort}
use Rattle.proto_all_faults.proofs.paths.sort_paths.Goals as goal

pub returns-clause-in_order : goal.returns-clause-in_order
returns-clause-in_order c = in_order_from_sort (λ p. p.now) c.sort_unstable.new.self.items c.sort_unstable.ensures.sorted
