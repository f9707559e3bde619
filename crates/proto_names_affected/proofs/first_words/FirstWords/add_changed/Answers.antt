use Rattle.std.proofs.Common.{◌<◌, [], All, length, take, subst, sym, ap, ◌∙◌, arith, take_all}
use Rattle.std.specs.Global.{Vec}
use Rattle.std.proofs.lemmas.List.{get_or-map}
use Rattle.std.proofs.lemmas.List.Elements.{All-more, All-nil, All-weaker}
use Rattle.proto_base.specs.declared.changes.Change.{Change}
use Rattle.proto_names_table.specs.declared.ids.Meant.{Meant}
use Rattle.proto_names_affected.specs.FirstWords.{HasFirsts}
use Rattle.proto_names_affected.proofs.ChangedFirsts.{HasOwn, firsts_now, own_stays, sized_now}
use Rattle.proto_names_affected.proofs.WordSets.{firsts_more, firsts_same, sizes_stay}
use Rattle.proto_names_affected.proofs.first_words.FirstWords.add_changed.Goals as goal

pub loop-change-init : goal.loop-change-init
loop-change-init c = record {
  sized = sized_now c.args.self.now c.args.changed.now c.args.meant.now c.requires.before;
  stay = firsts_same c.args.self.now;
  added = All-nil (HasOwn c.args.self.now c.args.meant.now);
}

pub add-requires : goal.add-requires
add-requires c =
    let one : Change (Vec Meant) = c.change-item.result in
    let within : one.place < length c.args.meant.now = subst (λ n. n < length c.args.meant.now) (sym (ap (λ (x : Change (Vec Meant)). x.place) c.change-item.is)) (c.requires.within c.loop-change.change-index one c.loop-change-test.true) in
    record { within = λ k d l. omega (arith, c.loop-change.invariant.sized k d l, within) }

pub loop-change-preserved : goal.loop-change-preserved
loop-change-preserved c =
    let was = c.loop-change.self in
    let now = c.add.new.self in
    let meant = c.args.meant.now in
    let i = c.loop-change.change-index in
    let one : Change (Vec Meant) = c.change-item.result in
    let stay = c.add.ensures.stay in
    let within : one.place < length meant = subst (λ n. n < length meant) (sym (ap (λ (x : Change (Vec Meant)). x.place) c.change-item.is)) (c.requires.within i one c.loop-change-test.true) in
    let here = c.as_slice.ensures ∙ ap (λ (v : Vec Meant). v.items) c.index-meant-change.is ∙ sym (get_or-map (λ (v : Vec Meant). v.items) meant one.place c.index-meant-change.result [] within) in
    record {
      sized = sizes_stay was now stay (length meant) c.loop-change.invariant.sized;
      stay = firsts_more c.args.self.now was now c.loop-change.invariant.stay stay;
      added = All-more (HasOwn now meant) c.args.changed.now i one c.loop-change-test.true
          (All-weaker (HasOwn was meant) (HasOwn now meant) (own_stays was now meant stay) (take i c.args.changed.now) c.loop-change.invariant.added)
          (subst (HasOwn now meant) c.change-item.is (subst (HasFirsts now one.place) here c.add.ensures.added));
    }

pub returns-clause-stay : goal.returns-clause-stay
returns-clause-stay c = c.loop-change.invariant.stay

pub returns-clause-firsts : goal.returns-clause-firsts
returns-clause-firsts c =
    firsts_now c.args.self.now c.loop-change.self c.args.changed.now c.args.meant.now c.loop-change.invariant.stay c.loop-change.invariant.sized c.requires.before
    (subst (All (HasOwn c.loop-change.self c.args.meant.now)) (take_all c.loop-change.change-index c.args.changed.now c.loop-change-test.false) c.loop-change.invariant.added)
