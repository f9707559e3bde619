use Rattle.std.proofs.Common.{◌<◌, get_or, length, take, subst, arith, take_all}
use Rattle.std.proofs.lemmas.List.Elements.{All-more, All-nil, All-weaker}
use Rattle.proto_names_affected.specs.Marking.{ArePlacesMarked, IsMarked}
use Rattle.proto_names_affected.proofs.Inserted.{inserted_marked, inserted_stay}
use Rattle.proto_names_affected.proofs.Marks.{stay_more, stay_same}
use Rattle.proto_names_affected.proofs.marking.mark_places.Goals as goal

pub loop-place-init : goal.loop-place-init
loop-place-init c = record { stay = stay_same c.args.marks.now; marked = All-nil (IsMarked c.args.marks.now) }

pub loop-place-preserved : goal.loop-place-preserved
loop-place-preserved c =
    let was = c.loop-place.marks in
    let now = c.insert.new.self in
    let file = get_or c.args.places.now c.loop-place.place-index 0 in
    let stay = inserted_stay was now file c.insert.ensures in
    let within : file < length was = omega (arith, c.requires c.loop-place.place-index 0 c.loop-place-test.true, c.loop-place.invariant.stay.count) in
    record {
      stay = stay_more c.args.marks.now was now c.loop-place.invariant.stay stay;
      marked = All-more (IsMarked now) c.args.places.now c.loop-place.place-index 0 c.loop-place-test.true
          (All-weaker (IsMarked was) (IsMarked now) stay.set (take c.loop-place.place-index c.args.places.now) c.loop-place.invariant.marked) (inserted_marked was now file within c.insert.ensures);
    }

pub returns-clause-stay : goal.returns-clause-stay
returns-clause-stay c = c.loop-place.invariant.stay

pub returns-clause-marked : goal.returns-clause-marked
returns-clause-marked c = subst (ArePlacesMarked c.loop-place.marks) (take_all c.loop-place.place-index c.args.places.now c.loop-place-test.false) c.loop-place.invariant.marked
