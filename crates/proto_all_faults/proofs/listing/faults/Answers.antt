use Rattle.proto_all_faults.proofs.listing.faults.Goals as goal

pub returns : goal.returns
returns c = c.faults_as.ensures
