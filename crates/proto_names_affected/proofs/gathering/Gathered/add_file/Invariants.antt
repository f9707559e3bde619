use Rattle.std.proofs.Common.{map, take}
use Rattle.proto_names_affected.specs.Referred.{meant_row}
use Rattle.proto_names_affected.specs.Gathering.{Gathers}
use Rattle.proto_names_affected.proofs.gathering.Gathered.add_file.Given as goal

abbrev pub invariant-loop-one : goal.invariant-loop-one
invariant-loop-one l = Gathers l.initial.self l.self (map (meant_row l.file) (take l.one-index l.meant))
