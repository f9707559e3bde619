use Rattle.std.proofs.Common.{◌<◌, All, [], length, get_or, map, take, sym, subst, arith, take_all}
use Rattle.std.proofs.lemmas.List.Elements.{All-more, All-nil, All-weaker}
use Rattle.proto_names_table.specs.declared.ids.RefId.{RefId}
use Rattle.proto_names_affected.specs.Marking.{AreReferencesMarked, AreUsersMarked, IsMarked}
use Rattle.proto_names_affected.proofs.Marks.{own_within, stay_more, stay_same}
use Rattle.proto_names_affected.proofs.marking.mark_users.Goals as goal

pub loop-row-init : goal.loop-row-init
loop-row-init c = record { stay = stay_same c.args.marks.now; marked = All-nil (λ row. AreReferencesMarked c.args.marks.now (get_or (map (λ v. v.items) c.args.references.now) row [])) }

pub mark_all-requires : goal.mark_all-requires
mark_all-requires c =
    let row = get_or c.args.rows.now c.loop-row.row-index 0 in
    let n = c.loop-row.invariant.stay.count in
    subst (All (λ (r : RefId). r.file < length c.loop-row.marks)) (sym c.references_of.ensures)
    (All-weaker (λ (r : RefId). r.file < length c.args.marks.now) (λ (r : RefId). r.file < length c.loop-row.marks) (λ r h. omega (arith, h, n)) (get_or (map (λ v. v.items) c.args.references.now) row [])
    (own_within (λ (r : RefId). r.file < length c.args.marks.now) c.args.references.now row c.requires))

pub loop-row-preserved : goal.loop-row-preserved
loop-row-preserved c =
    let was = c.loop-row.marks in
    let now = c.mark_all.new.marks in
    let lists = map (λ v. v.items) c.args.references.now in
    record {
      stay = stay_more c.args.marks.now was now c.loop-row.invariant.stay c.mark_all.ensures.stay;
      marked = All-more (λ row. AreReferencesMarked now (get_or lists row [])) c.args.rows.now c.loop-row.row-index 0 c.loop-row-test.true
          (All-weaker (λ row. AreReferencesMarked was (get_or lists row [])) (λ row. AreReferencesMarked now (get_or lists row []))
          (λ row h. All-weaker (λ (r : RefId). IsMarked was r.file) (λ (r : RefId). IsMarked now r.file) (λ r it. c.mark_all.ensures.stay.set r.file it) (get_or lists row []) h)
          (take c.loop-row.row-index c.args.rows.now) c.loop-row.invariant.marked)
          (subst (AreReferencesMarked now) c.references_of.ensures c.mark_all.ensures.marked);
    }

pub returns-clause-stay : goal.returns-clause-stay
returns-clause-stay c = c.loop-row.invariant.stay

pub returns-clause-marked : goal.returns-clause-marked
returns-clause-marked c = subst (AreUsersMarked c.loop-row.marks (map (λ v. v.items) c.args.references.now)) (take_all c.loop-row.row-index c.args.rows.now c.loop-row-test.false) c.loop-row.invariant.marked
