use Rattle.std.proofs.Common.{take, subst, take_all}
use Rattle.std.proofs.lemmas.List.Elements.{All-more, All-nil, All-weaker}
use Rattle.proto_file_sets.specs.FileSets.{IsIn}
use Rattle.proto_names_table.specs.declared.ids.Meant.{Meant}
use Rattle.proto_names_affected.specs.FirstWords.{HasFirsts, first_files}
use Rattle.proto_names_affected.proofs.WordSets.{first_stays, firsts_more, firsts_same, within_stays}
use Rattle.proto_names_affected.proofs.first_words.FirstWords.add.Goals as goal

abbrev none : Meant
none = record { token = 0; first = 0; row = 0 }

pub loop-one-init : goal.loop-one-init
loop-one-init c = record {
  within = c.requires.within;
  stay = firsts_same c.args.self.now;
  added = All-nil (λ (m : Meant). IsIn (first_files c.args.self.now m.first) c.args.file);
}

pub add_key-requires : goal.add_key-requires
add_key-requires c = record { within = c.loop-one.invariant.within }

pub loop-one-preserved : goal.loop-one-preserved
loop-one-preserved c =
    let file = c.args.file in
    let was = c.loop-one.self in
    let now = c.add_key.new.self in
    let stay = c.add_key.ensures.stay in
    let i = c.loop-one.one-index in
    record {
      within = within_stays was now stay file c.loop-one.invariant.within;
      stay = firsts_more c.args.self.now was now c.loop-one.invariant.stay stay;
      added = All-more (λ (m : Meant). IsIn (first_files now m.first) file) c.args.meant.now i none c.loop-one-test.true
          (All-weaker (λ (m : Meant). IsIn (first_files was m.first) file) (λ (m : Meant). IsIn (first_files now m.first) file) (λ m h. first_stays was now stay m.first file h) (take i c.args.meant.now) c.loop-one.invariant.added)
          c.add_key.ensures.added;
    }

pub returns-clause-stay : goal.returns-clause-stay
returns-clause-stay c = c.loop-one.invariant.stay

pub returns-clause-added : goal.returns-clause-added
returns-clause-added c = subst (HasFirsts c.loop-one.self c.args.file) (take_all c.loop-one.one-index c.args.meant.now c.loop-one-test.false) c.loop-one.invariant.added
