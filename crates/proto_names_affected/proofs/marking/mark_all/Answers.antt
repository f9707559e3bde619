use Rattle.std.proofs.Common.{◌<◌, get_or, length, take, subst, arith, take_all}
use Rattle.std.proofs.lemmas.List.Elements.{All-more, All-nil, All-weaker}
use Rattle.proto_names_table.specs.declared.ids.RefId.{RefId}
use Rattle.proto_names_affected.specs.Marking.{AreReferencesMarked, IsMarked}
use Rattle.proto_names_affected.proofs.Inserted.{inserted_marked, inserted_stay}
use Rattle.proto_names_affected.proofs.Marks.{stay_more, stay_same}
use Rattle.proto_names_affected.proofs.marking.mark_all.Goals as goal

abbrev none : RefId
none = record { file = 0; token = 0 }

pub loop-reference-init : goal.loop-reference-init
loop-reference-init c = record { stay = stay_same c.args.marks.now; marked = All-nil (λ (r : RefId). IsMarked c.args.marks.now r.file) }

pub loop-reference-preserved : goal.loop-reference-preserved
loop-reference-preserved c =
    let was = c.loop-reference.marks in
    let now = c.insert.new.self in
    let one = get_or c.args.references.now c.loop-reference.reference-index none in
    let stay = inserted_stay was now one.file c.insert.ensures in
    let within : one.file < length was = omega (arith, c.requires c.loop-reference.reference-index none c.loop-reference-test.true, c.loop-reference.invariant.stay.count) in
    record {
      stay = stay_more c.args.marks.now was now c.loop-reference.invariant.stay stay;
      marked = All-more (λ (r : RefId). IsMarked now r.file) c.args.references.now c.loop-reference.reference-index none c.loop-reference-test.true
          (All-weaker (λ (r : RefId). IsMarked was r.file) (λ (r : RefId). IsMarked now r.file) (λ r h. stay.set r.file h) (take c.loop-reference.reference-index c.args.references.now) c.loop-reference.invariant.marked) (inserted_marked was now one.file within c.insert.ensures);
    }

pub returns-clause-stay : goal.returns-clause-stay
returns-clause-stay c = c.loop-reference.invariant.stay

pub returns-clause-marked : goal.returns-clause-marked
returns-clause-marked c = subst (AreReferencesMarked c.loop-reference.marks) (take_all c.loop-reference.reference-index c.args.references.now c.loop-reference-test.false) c.loop-reference.invariant.marked
