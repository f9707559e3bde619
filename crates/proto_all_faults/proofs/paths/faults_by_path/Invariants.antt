use Rattle.std.proofs.Common.{◌≡◌, ◌++◌, drop, map}
use Rattle.proto_files.specs.Faults.{fault_at}
use Rattle.proto_all_faults.specs.Common.{path_faults_from}
use Rattle.proto_all_faults.proofs.paths.faults_by_path.Given as goal

abbrev pub invariant-loop-place : goal.invariant-loop-place
invariant-loop-place l = map fault_at l.found.items ++ path_faults_from l.place 4096 (drop l.place (map (λ p. p.now) l.paths)) ≡ path_faults_from 0 4096 (map (λ p. p.now) l.paths)
