use Rattle.std.proofs.Common.{rules}
use Rattle.proto_session_files.proofs.Brought.{sorted_as_given}
use Rattle.proto_session_files.proofs.compiling.replaced.Goals as goal

pub returns-in-Ok : goal.returns-in-Ok
returns-in-Ok c = (sorted_as_given _ _ (search rules) (search rules), search rules)
