use Rattle.proto_edit_captures.proofs.LookedUp.{unmoved}
use Rattle.proto_edit_captures.proofs.finding.declared_target.Goals as goal

pub returns-in_default-place-clause-err : goal.returns-in_default-place-clause-err
returns-in_default-place-clause-err c = unmoved c.args.link.now c.in-Some.id.row c.args.name.now c.in-Some.ensures.some c.in_default-place.ensures.none
