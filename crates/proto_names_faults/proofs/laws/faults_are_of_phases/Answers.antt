use Rattle.proto_names_faults.proofs.PhasesOfLinks.{faults_are_of_phases}
use Rattle.proto_names_faults.proofs.laws.faults_are_of_phases.Goals as goal

pub returns : goal.returns
returns c = faults_are_of_phases
