use Rattle.std.proofs.Common.{◌<◌, get_or, length, take, subst, sym, arith, take_all, Contains}
use Rattle.std.proofs.lemmas.List.Elements.{All-more, All-nil, All-weaker, Contains-get_or}
use Rattle.proto_files.proofs.Common.{file_at}
use Rattle.proto_names_affected.proofs.WordSets.{firsts_more, firsts_same, sizes_stay}
use Rattle.proto_option_files.proofs.Changed.{still_theirs}
use Rattle.proto_option_files.proofs.KeySets.{file_keys_stay}
use Rattle.proto_option_files.specs.OptionFiles.{HasFileKeys, HaveFileKeys}
use Rattle.proto_option_files.proofs.option_files.OptionFiles.add_changed.Goals as goal

pub loop-file-init : goal.loop-file-init
loop-file-init c = record {
  sized = c.requires.sized;
  stay = firsts_same c.args.self.now;
  added = All-nil (λ file. HasFileKeys (file_at c.args.files.now file) c.args.self.now file);
  others = λ place other none is. is;
}

pub add_file-requires : goal.add_file-requires
add_file-requires c =
    let file = get_or c.args.changed.now c.loop-file.file-index 0 in
    let within : file < length c.args.files.now = c.requires.within c.loop-file.file-index 0 c.loop-file-test.true in
    record { file = within; within = λ k d l. omega (arith, c.loop-file.invariant.sized k d l, within) }

pub loop-file-preserved : goal.loop-file-preserved
loop-file-preserved c =
    let was = c.loop-file.self in
    let now = c.add_file.new.self in
    let files = c.args.files.now in
    let changed = c.args.changed.now in
    let i = c.loop-file.file-index in
    let stay = c.add_file.ensures.stay in
    record {
      sized = sizes_stay was now stay (length files) c.loop-file.invariant.sized;
      stay = firsts_more c.args.self.now was now c.loop-file.invariant.stay stay;
      added = All-more (λ k. HasFileKeys (file_at files k) now k) changed i 0 c.loop-file-test.true
          (All-weaker (λ k. HasFileKeys (file_at files k) was k) (λ k. HasFileKeys (file_at files k) now k) (λ k. file_keys_stay (file_at files k) was now stay k) (take i changed) c.loop-file.invariant.added)
          c.add_file.ensures.added;
      others = λ place other none is.
          c.loop-file.invariant.others place other none
          (c.add_file.ensures.others place other (λ e. none (subst (Contains changed) (sym e) (Contains-get_or changed i 0 c.loop-file-test.true))) is);
    }

pub returns-clause-theirs : goal.returns-clause-theirs
returns-clause-theirs c = λ before same theirs.
    let files = c.args.files.now in
    let changed = c.args.changed.now in
    let now = c.loop-file.self in
    still_theirs before files changed c.args.self.now now same c.loop-file.invariant.stay
    (subst (HaveFileKeys files now) (take_all c.loop-file.file-index changed c.loop-file-test.false) c.loop-file.invariant.added) theirs

pub returns-clause-stay : goal.returns-clause-stay
returns-clause-stay c = c.loop-file.invariant.stay

pub returns-clause-others : goal.returns-clause-others
returns-clause-others c = c.loop-file.invariant.others
