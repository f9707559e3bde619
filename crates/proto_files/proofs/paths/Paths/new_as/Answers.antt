use Rattle.std.proofs.Common.{rules}
use Rattle.proto_files.proofs.paths.Paths.new_as.Goals as goal

pub returns-clause-clean : goal.returns-clause-clean
returns-clause-clean c = search rules

pub returns-clause-fault : goal.returns-clause-fault
returns-clause-fault c = search rules
