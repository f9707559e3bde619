use Rattle.std.proofs.Common.{rules}
use Rattle.proto_text.proofs.splice.turn.Goals as goal

pub returns-clause-edit : goal.returns-clause-edit
returns-clause-edit c = search rules

pub returns-clause-to : goal.returns-clause-to
returns-clause-to c = search rules
