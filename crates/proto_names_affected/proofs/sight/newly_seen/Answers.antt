use Rattle.std.proofs.Common.{◌≡◌, ℕ, ◌<◌, Bool, true, false, List, [], All, get_or, length, take, sym, ◌∙◌, ap, subst, arith, take_all}
use Rattle.std.proofs.lemmas.List.{get_or_default}
use Rattle.std.proofs.lemmas.List.Elements.{All-more, All-weaker}
use Rattle.proto_base.specs.declared.changes.Change.{Change}
use Rattle.proto_file_sets.proofs.Members.{new_is_in}
use Rattle.proto_names_affected.specs.Marking.{IsMarked}
use Rattle.proto_names_affected.specs.Sight.{IsNewlySeen}
use Rattle.proto_names_affected.proofs.sight.newly_seen.Goals as goal

pub loop-change-preserved : goal.loop-change-preserved
loop-change-preserved c =
    let rows = c.args.sighted.rows.now in
    let sees : List (List Bool) = c.args.sighted.sees.now in
    let i = c.loop-change.change-index in
    let one : Change (List Bool) = c.change-item.result in
    let was = c.loop-change.marks in
    let now = c.add_new.new.self in
    let asked = λ (marks : List Bool) (x : Change (List Bool)). ((g : ℕ) → g < length rows → IsNewlySeen x.was (get_or sees x.place []) g → IsMarked marks g) in
    let within : one.place < length rows = subst (λ n. n < length rows) (sym (ap (λ (x : Change (List Bool)). x.place) c.change-item.is)) (c.requires.files i one c.loop-change-test.true) in
    let seen : get_or sees one.place [] ≡ get_or sees one.place c.index-sighted-change.result = sym (get_or_default sees one.place c.index-sighted-change.result [] (omega (arith, within, c.requires.sees))) in
    record {
      len = c.add_new.ensures.count ∙ c.loop-change.invariant.len;
      marked = All-more (asked now) c.args.saw.now i one c.loop-change-test.true
          (All-weaker (asked was) (asked now) (λ x h g l new. c.add_new.ensures.kept g (h g l new)) (take i c.args.saw.now) c.loop-change.invariant.marked)
          (subst (asked now) c.change-item.is (λ g l new. c.add_new.ensures.files g (omega (arith, l, c.loop-change.invariant.len))
          ∙ new_is_in was (get_or sees one.place c.index-sighted-change.result) one.was g (subst (λ (ms : List Bool). get_or ms g false ≡ true) seen new.1) new.0));
    }

pub returns : goal.returns
returns c =
    let sees : List (List Bool) = c.args.sighted.sees.now in
    subst (All (λ (x : Change (List Bool)). (g : ℕ) → g < length c.args.sighted.rows.now → IsNewlySeen x.was (get_or sees x.place []) g → IsMarked c.loop-change.marks g)) (take_all c.loop-change.change-index c.args.saw.now c.loop-change-test.false) c.loop-change.invariant.marked
