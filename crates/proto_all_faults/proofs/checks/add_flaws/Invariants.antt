use Rattle.std.proofs.Common.{◌≡◌, ◌++◌, List, map, take}
use Rattle.proto_files.specs.Faults.{fault_at}
use Rattle.proto_files.specs.FilesRead.{AreRead, ReadOf}
use Rattle.proto_desc.specs.Checked.{fault_of_flaw}
use Rattle.proto_all_faults.proofs.checks.add_flaws.Given as goal

abbrev pub invariant-loop-flaw : goal.invariant-loop-flaw
invariant-loop-flaw l = (reads : List ReadOf) → AreRead l.files reads → map fault_at l.found.items ≡ map fault_at l.initial.found.items ++ map (fault_of_flaw l.files reads l.file) (take l.flaw-index l.flaws)
