use Rattle.std.proofs.Common.{get_or, inl, take, subst, take_all}
use Rattle.std.proofs.lemmas.List.Elements.{All-more, All-nil, Contains-get_or}
use Rattle.proto_file_sets.specs.FileSets.{IsIn}
use Rattle.proto_names_affected.specs.FirstWords.{first_files}
use Rattle.proto_names_affected.proofs.WordSets.{firsts_more, firsts_same, within_stays}
use Rattle.proto_option_files.proofs.KeySets.{adds_more, keys_stay}
use Rattle.proto_option_files.specs.OptionFiles.{HasKeys}
use Rattle.proto_option_files.proofs.option_files.OptionFiles.add_keys.Goals as goal

pub loop-key-init : goal.loop-key-init
loop-key-init c = record {
  within = c.requires.within;
  stay = firsts_same c.args.self.now;
  added = All-nil (λ key. IsIn (first_files c.args.self.now key) c.args.file);
  only = λ place other is. inl is;
}

pub add_key-requires : goal.add_key-requires
add_key-requires c = record { within = c.loop-key.invariant.within }

pub loop-key-preserved : goal.loop-key-preserved
loop-key-preserved c =
    let file = c.args.file in
    let keys = c.args.keys.now in
    let was = c.loop-key.self in
    let now = c.add_key.new.self in
    let stay = c.add_key.ensures.stay in
    let i = c.loop-key.key-index in
    record {
      within = within_stays was now stay file c.loop-key.invariant.within;
      stay = firsts_more c.args.self.now was now c.loop-key.invariant.stay stay;
      added = All-more (λ key. IsIn (first_files now key) file) keys i 0 c.loop-key-test.true
          (keys_stay was now stay file (take i keys) c.loop-key.invariant.added)
          c.add_key.ensures.added;
      only = adds_more c.args.self.now was now file keys c.loop-key.invariant.stay c.loop-key.invariant.only (get_or keys i 0) (Contains-get_or keys i 0 c.loop-key-test.true) c.add_key.ensures.only;
    }

pub returns-clause-stay : goal.returns-clause-stay
returns-clause-stay c = c.loop-key.invariant.stay

pub returns-clause-added : goal.returns-clause-added
returns-clause-added c = subst (HasKeys c.loop-key.self c.args.file) (take_all c.loop-key.key-index c.args.keys.now c.loop-key-test.false) c.loop-key.invariant.added

pub returns-clause-only : goal.returns-clause-only
returns-clause-only c = c.loop-key.invariant.only
