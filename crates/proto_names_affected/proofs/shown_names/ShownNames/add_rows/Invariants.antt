use Rattle.std.proofs.Common.{take, All}
use Rattle.proto_names_affected.specs.Sight.{AreMoreGathered, IsGathered}
use Rattle.proto_names_affected.proofs.shown_names.ShownNames.add_rows.Given as goal

abbrev pub invariant-loop-row : goal.invariant-loop-row
invariant-loop-row l = record {
  more : AreMoreGathered l.table l.initial.self.packages.keys l.initial.self.keys.keys l.self.packages.keys l.self.keys.keys;
  gathered : All (IsGathered l.table l.self.packages.keys l.self.keys.keys) (take l.row-index l.rows);
}
