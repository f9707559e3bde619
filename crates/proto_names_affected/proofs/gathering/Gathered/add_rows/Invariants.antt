use Rattle.std.proofs.Common.{[], take}
use Rattle.proto_names_affected.specs.Gathering.{AreRowsNamed, Gathers}
use Rattle.proto_names_affected.proofs.gathering.Gathered.add_rows.Given as goal

abbrev pub invariant-loop-one : goal.invariant-loop-one
invariant-loop-one l = record {
  gathers : Gathers l.initial.self l.self [];
  named : AreRowsNamed l.self.rows.keys (take l.one-index l.meant);
}
