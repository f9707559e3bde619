use Rattle.proto_desc_checks.proofs.laws.flaws_as_written_are_of_core.Goals as goal
use Rattle.proto_desc_checks.proofs.WrittenFlaws.{flaws_as_written_are_of_core}

pub returns : goal.returns
returns c = flaws_as_written_are_of_core
