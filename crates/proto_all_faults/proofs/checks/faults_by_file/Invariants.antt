use Rattle.std.proofs.Common.{◌≡◌, List, map, Some}
use Rattle.proto_files.specs.Faults.{fault_at}
use Rattle.proto_files.specs.FilesRead.{AreRead, ReadOf}
use Rattle.proto_ast.specs.Numbers.{past}
use Rattle.proto_all_faults.specs.Steps.{faults_before}
use Rattle.proto_all_faults.proofs.checks.faults_by_file.Given as goal

abbrev pub invariant-loop-file : goal.invariant-loop-file
invariant-loop-file l = (reads : List ReadOf) → AreRead l.files reads → map fault_at l.found.items ≡ faults_before (Some past) l.files reads l.file
