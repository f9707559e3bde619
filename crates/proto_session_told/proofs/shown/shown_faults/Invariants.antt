use Rattle.std.proofs.Common.{◌≡◌, map, take}
use Rattle.proto_files.specs.Faults.{fault_at}
use Rattle.proto_session_told.specs.Shown.{shown_fault, shown_of}
use Rattle.proto_session_told.proofs.shown.shown_faults.Given as goal

abbrev pub invariant-loop-fault : goal.invariant-loop-fault
invariant-loop-fault l =
    map shown_of l.shown.items ≡ map shown_fault (map fault_at (take l.fault-index l.listed))
