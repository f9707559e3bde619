use Rattle.std.proofs.Common.{refl}
use Rattle.proto_edit_rename.proofs.MarkTurns.{all_marked, marks_turn}
use Rattle.proto_edit_rename.proofs.changing.marks_of.Goals as goal

pub loop-place-preserved : goal.loop-place-preserved
loop-place-preserved c = marks_turn c.args.places.now c.loop-place.place-index _ _ c.loop-place.marks.items _ _ c.loop-place-test.true refl c.mark.ensures c.loop-place.invariant

pub returns : goal.returns
returns c = all_marked c.args.places.now c.loop-place.place-index _ _ c.loop-place-test.false c.loop-place.invariant
