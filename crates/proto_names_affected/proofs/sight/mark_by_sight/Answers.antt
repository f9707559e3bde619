use Rattle.std.proofs.Common.{◌≡◌, ℕ, ◌<◌, Bool, List, [], All, get_or, length, map, take, sym, ap, subst, arith, take_all}
use Rattle.std.proofs.lemmas.List.Elements.{All-more, All-nil, All-weaker}
use Rattle.proto_base.specs.declared.changes.Change.{Change}
use Rattle.proto_names_table.specs.declared.ids.Meant.{Meant}
use Rattle.proto_names_affected.specs.Marking.{IsMarked}
use Rattle.proto_names_affected.specs.Sight.{IsNewlySeen, IsSightMarked}
use Rattle.proto_names_affected.proofs.Marks.{stay_more, stay_same}
use Rattle.proto_names_affected.proofs.Sights.{newly_gathered, sight_stays}
use Rattle.proto_names_affected.proofs.sight.mark_by_sight.Goals as goal

pub newly_seen-requires-clause-files : goal.newly_seen-requires-clause-files
newly_seen-requires-clause-files c = λ k d l. omega (arith, c.requires.files k d l, c.requires.rows)

pub loop-change-init : goal.loop-change-init
loop-change-init c =
    let rows : List (List ℕ) = map (λ v. v.items) c.args.sighted.rows.now in
    let meant : List (List Meant) = map (λ v. v.items) c.args.sighted.meant.now in
    let sees : List (List Bool) = c.args.sighted.sees.now in
    record {
      stay = stay_same c.args.marks.now;
      marked = λ before held. All-nil (λ (x : Change (List Bool)). IsSightMarked c.args.marks.now c.args.sighted.table.now rows meant before sees x.place);
    }

pub mark_one-requires-clause-file : goal.mark_one-requires-clause-file
mark_one-requires-clause-file c =
    let one : Change (List Bool) = c.change-item.result in
    let place = ap (λ (x : Change (List Bool)). x.place) c.change-item.is in
    omega (arith, c.requires.files c.loop-change.change-index one c.loop-change-test.true, place, c.loop-change.invariant.stay.count)

pub mark_one-requires-clause-rows : goal.mark_one-requires-clause-rows
mark_one-requires-clause-rows c = omega (arith, c.requires.rows, c.loop-change.invariant.stay.count)

pub mark_one-requires-clause-meant : goal.mark_one-requires-clause-meant
mark_one-requires-clause-meant c = omega (arith, c.requires.meant, c.loop-change.invariant.stay.count)

pub mark_one-requires-clause-sees : goal.mark_one-requires-clause-sees
mark_one-requires-clause-sees c = omega (arith, c.requires.sees, c.loop-change.invariant.stay.count)

pub mark_one-requires-clause-gathered : goal.mark_one-requires-clause-gathered
mark_one-requires-clause-gathered c =
    let rows = c.args.sighted.rows.now in
    let sees : List (List Bool) = c.args.sighted.sees.now in
    let names = c.in_ok-names.names in
    let one : Change (List Bool) = c.change-item.result in
    newly_gathered c.args.sighted.table.now rows c.in_ok-seen.seen one.was (get_or sees one.place []) names.packages.keys names.keys.keys
    (subst (λ (x : Change (List Bool)). (g : ℕ) → g < length rows → IsNewlySeen x.was (get_or sees x.place []) g → IsMarked c.in_ok-seen.seen g) (sym c.change-item.is) (c.in_ok-seen.ensures c.loop-change.change-index one c.loop-change-test.true))
    c.in_ok-names.ensures.gathered

pub loop-change-preserved : goal.loop-change-preserved
loop-change-preserved c =
    let t = c.args.sighted.table.now in
    let rows : List (List ℕ) = map (λ v. v.items) c.args.sighted.rows.now in
    let meant : List (List Meant) = map (λ v. v.items) c.args.sighted.meant.now in
    let sees : List (List Bool) = c.args.sighted.sees.now in
    let saw : List (Change (List Bool)) = c.args.saw.now in
    let i = c.loop-change.change-index in
    let one : Change (List Bool) = c.change-item.result in
    let was = c.loop-change.marks in
    let now = c.mark_one.new.marks in
    let stay = c.in_ok-mark_one.ensures.stay in
    let asked = λ (marks : List Bool) (before : List (List Bool)) (x : Change (List Bool)). IsSightMarked marks t rows meant before sees x.place in
    record {
      stay = stay_more c.args.marks.now was now c.loop-change.invariant.stay stay;
      marked = λ before held. All-more (asked now before) saw i one c.loop-change-test.true
          (All-weaker (asked was before) (asked now before) (λ x h. sight_stays was now t rows meant before sees stay x.place h) (take i saw) (c.loop-change.invariant.marked before held))
          (subst (asked now before) c.change-item.is (c.in_ok-mark_one.ensures.marked before
          (subst (λ (x : Change (List Bool)). get_or before x.place [] ≡ x.was) (sym c.change-item.is) (held i one c.loop-change-test.true))));
    }

pub returns-clause-stay : goal.returns-clause-stay
returns-clause-stay c = c.loop-change.invariant.stay

pub returns-clause-marked : goal.returns-clause-marked
returns-clause-marked c = λ before held.
    let rows : List (List ℕ) = map (λ v. v.items) c.args.sighted.rows.now in
    let meant : List (List Meant) = map (λ v. v.items) c.args.sighted.meant.now in
    let sees : List (List Bool) = c.args.sighted.sees.now in
    subst (All (λ (x : Change (List Bool)). IsSightMarked c.loop-change.marks c.args.sighted.table.now rows meant before sees x.place)) (take_all c.loop-change.change-index c.args.saw.now c.loop-change-test.false) (c.loop-change.invariant.marked before held)
