use Rattle.proto_edit.proofs.OneAnswer.{described_once, mapped_once, refused_once, steps_once}
use Rattle.proto_edit.proofs.laws.answers_are_one.Goals as goal

pub returns : goal.returns
returns c = record { described = described_once; steps = steps_once c.statements_are_known.ensures; mapped = mapped_once c.statements_are_known.ensures; refused = refused_once c.statements_are_known.ensures }
