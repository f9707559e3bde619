use Rattle.std.proofs.Common.{rules}
use Rattle.protoref_output.proofs.reporting.fault_answer.Goals as goal

pub returns-clause-status : goal.returns-clause-status
returns-clause-status g c = search rules
