use Rattle.std.proofs.Common.{◌≡◌, ◌<◌, ◌%◌, [], get_or, length, sym, arith, below_more}
use Rattle.proto_names_affected.proofs.WordSets.{firsts_more, firsts_same, within_stays}
use Rattle.proto_option_files.proofs.KeySets.{in_more, in_now, put_others, put_stays}
use Rattle.proto_option_files.proofs.option_files.insert_in_all.Goals as goal

pub loop-place-init : goal.loop-place-init
loop-place-init c = record {
  within = c.requires.within;
  stay = firsts_same c.args.sets.now.items;
  added = λ place lt. absurd (omega (arith, lt));
  others = λ place other apart is. is;
}

pub insert_in-requires : goal.insert_in-requires
insert_in-requires c = omega (arith, c.loop-place-test.true, c.loop-place.invariant.stay.count)

pub loop-place-preserved : goal.loop-place-preserved
loop-place-preserved c =
    let was = c.loop-place.sets.items in
    let now = c.insert_in.new.sets.items in
    let place = c.loop-place.place in
    let file = c.args.file in
    let there : place < length was = omega (arith, c.loop-place-test.true, c.loop-place.invariant.stay.count) in
    let stay = put_stays was now place file there c.insert_in.ensures in
    record {
      within = within_stays was now stay file c.loop-place.invariant.within;
      stay = firsts_more c.args.sets.now.items was now c.loop-place.invariant.stay stay;
      added = in_more was now place file there c.insert_in.ensures (c.loop-place.invariant.within place [] there) c.loop-place.invariant.added;
      others = λ p other apart is. c.loop-place.invariant.others p other apart (put_others was now place file there c.insert_in.ensures p other apart is);
    }

pub returns-clause-stay : goal.returns-clause-stay
returns-clause-stay c = c.loop-place.invariant.stay

pub returns-clause-added : goal.returns-clause-added
returns-clause-added c = λ key. in_now c.loop-place.sets.items c.args.file (omega (arith, c.requires.some, c.loop-place.invariant.stay.count)) (λ place lt. c.loop-place.invariant.added place (omega (arith, lt, c.loop-place-test.false, c.loop-place.invariant.stay.count))) key

pub returns-clause-others : goal.returns-clause-others
returns-clause-others c = c.loop-place.invariant.others
