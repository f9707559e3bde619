use Rattle.std.proofs.Common.{◌<◌, All, length, take, ap, subst, sym, arith, take_all}
use Rattle.std.specs.Global.{Vec}
use Rattle.std.proofs.lemmas.List.Elements.{All-more, All-nil, All-weaker}
use Rattle.proto_base.specs.declared.changes.Change.{Change}
use Rattle.proto_names_table.specs.declared.ids.Meant.{Meant}
use Rattle.proto_names_affected.specs.Marking.{IsMarked}
use Rattle.proto_names_affected.proofs.Inserted.{inserted_marked, inserted_stay}
use Rattle.proto_names_affected.proofs.Marks.{stay_more, stay_same}
use Rattle.proto_names_affected.proofs.renewed_references.insert_changed.Goals as goal

pub loop-change-init : goal.loop-change-init
loop-change-init c = record { stay = stay_same c.args.files.now; changed = All-nil (λ (x : Change (Vec Meant)). IsMarked c.args.files.now x.place) }

pub loop-change-preserved : goal.loop-change-preserved
loop-change-preserved c =
    let was = c.loop-change.files in
    let now = c.insert_at.new.self in
    let i = c.loop-change.change-index in
    let one : Change (Vec Meant) = c.change-item.result in
    let stay = inserted_stay was now one.place c.insert_at.ensures in
    let few : one.place < length c.args.files.now = subst (λ n. n < length c.args.files.now) (sym (ap (λ (x : Change (Vec Meant)). x.place) c.change-item.is)) (c.requires i one c.loop-change-test.true) in
    let within : one.place < length was = omega (arith, few, c.loop-change.invariant.stay.count) in
    record {
      stay = stay_more c.args.files.now was now c.loop-change.invariant.stay stay;
      changed = All-more (λ (x : Change (Vec Meant)). IsMarked now x.place) c.args.old.now i one c.loop-change-test.true
          (All-weaker (λ (x : Change (Vec Meant)). IsMarked was x.place) (λ (x : Change (Vec Meant)). IsMarked now x.place) (λ x. stay.set x.place) (take i c.args.old.now) c.loop-change.invariant.changed)
          (subst (λ (x : Change (Vec Meant)). IsMarked now x.place) c.change-item.is (inserted_marked was now one.place within c.insert_at.ensures));
    }

pub returns-clause-changed : goal.returns-clause-changed
returns-clause-changed c =
    subst (All (λ (x : Change (Vec Meant)). IsMarked c.loop-change.files x.place)) (take_all c.loop-change.change-index c.args.old.now c.loop-change-test.false) c.loop-change.invariant.changed
