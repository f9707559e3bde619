use Rattle.std.proofs.Common.{rules}
use Rattle.proto_resolved.proofs.scenes.meaning_of.Goals as goal

pub returns-clause-meant : goal.returns-clause-meant
returns-clause-meant c = search rules
