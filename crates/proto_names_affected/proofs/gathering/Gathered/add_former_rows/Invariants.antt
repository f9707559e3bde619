use Rattle.std.proofs.Common.{[], take, All}
use Rattle.proto_names_affected.specs.Gathering.{AreRowsNamed, Gathers}
use Rattle.proto_names_affected.proofs.gathering.Gathered.add_former_rows.Given as goal

abbrev pub invariant-loop-change : goal.invariant-loop-change
invariant-loop-change l = record {
  gathers : Gathers l.initial.self l.self [];
  named : All (λ c. AreRowsNamed l.self.rows.keys c.was.items) (take l.change-index l.old);
}
