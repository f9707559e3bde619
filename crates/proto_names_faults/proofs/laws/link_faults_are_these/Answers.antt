use Rattle.proto_names_faults.proofs.PhasesOfLinks.{link_faults_are_these}
use Rattle.proto_names_faults.proofs.laws.link_faults_are_these.Goals as goal

pub returns : goal.returns
returns c = link_faults_are_these
