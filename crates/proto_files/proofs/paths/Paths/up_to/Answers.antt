use Rattle.proto_files.proofs.paths.Paths.up_to.Goals as goal

pub returns-clause-clean : goal.returns-clause-clean
returns-clause-clean c = c.up_to_as.ensures.clean

pub returns-clause-same : goal.returns-clause-same
returns-clause-same c = c.up_to_as.ensures.same

pub returns-clause-fault : goal.returns-clause-fault
returns-clause-fault c = c.up_to_as.ensures.fault
