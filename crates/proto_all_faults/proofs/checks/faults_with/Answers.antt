use Rattle.proto_all_faults.proofs.checks.faults_with.Goals as goal

pub returns : goal.returns
returns c = rw c.files.ensures.files at c.faults_by_file.ensures
