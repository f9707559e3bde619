use Rattle.std.proofs.Common.{arith, ◌≡◌, ◌<◌, ◌∙◌, length, map, refl}
use Rattle.proto_files.specs.GivenFiles.{paths_of}
use Rattle.proto_edit_entries.specs.Entries.{change_of}
use Rattle.proto_journal.proofs.Between.{as_long}
use Rattle.proto_journal.proofs.Replacing.{all_replaced, err_of, next_cut, next_left, next_listed, next_replaced, none_replaced, same_languages, same_paths}
use Rattle.proto_journal.proofs.writing.replace_files.Goals as goal

pub loop-place-init : goal.loop-place-init
loop-place-init g c = record {
  holds = none_replaced (g.S.Store.holds c.args.store.now) (g.S.Store.holds c.args.store.now) c.args.files.now.before.now c.args.files.now.after.now 0 c.requires.files refl refl;
  differ = c.requires.differ;
  count = refl;
}

pub replace_file-requires-clause-was : goal.replace_file-requires-clause-was
replace_file-requires-clause-was g c =
    omega (arith, as_long c.args.files.now.after.now c.args.files.now.before.now (same_paths (map change_of c.args.files.now.changes.now) c.args.files.now.before.now c.args.files.now.after.now c.requires.differ))

pub replace_file-requires-clause-listed : goal.replace_file-requires-clause-listed
replace_file-requires-clause-listed g c =
    let lt : c.loop-place.place < length c.args.files.now.after.now = omega arith in
    let paths : paths_of c.args.files.now.after.now ≡ paths_of c.args.files.now.before.now = same_paths (map change_of c.args.files.now.changes.now) c.args.files.now.before.now c.args.files.now.after.now c.requires.differ in
    let languages = same_languages (map change_of c.args.files.now.changes.now) c.args.files.now.before.now c.args.files.now.after.now c.requires.differ in
    next_listed (g.S.Store.holds c.args.store.now) c.args.files.now.before.now c.args.files.now.after.now c.loop-place.place lt paths languages (g.S.Store.holds c.loop-place.store) c.loop-place.invariant.holds

pub returns-in_err-left-clause-err : goal.returns-in_err-left-clause-err
returns-in_err-left-clause-err g c =
    let lt : c.loop-place.place < length c.args.files.now.after.now = omega arith in
    let paths : paths_of c.args.files.now.after.now ≡ paths_of c.args.files.now.before.now = same_paths (map change_of c.args.files.now.changes.now) c.args.files.now.before.now c.args.files.now.after.now c.requires.differ in
    let languages = same_languages (map change_of c.args.files.now.changes.now) c.args.files.now.before.now c.args.files.now.after.now c.requires.differ in
    err_of _ _ (next_cut (g.S.Store.holds c.args.store.now) c.args.files.now.before.now c.args.files.now.after.now c.loop-place.place lt paths languages c.len-place-end.ensures.workspace.ordered
    (g.S.Store.holds c.loop-place.store) (g.S.Store.holds c.replace_file.new.store) c.loop-place.invariant.holds c.in_err-left.ensures.err)

pub loop-place-preserved : goal.loop-place-preserved
loop-place-preserved g c =
    let lt : c.loop-place.place < length c.args.files.now.after.now = omega arith in
    let paths : paths_of c.args.files.now.after.now ≡ paths_of c.args.files.now.before.now = same_paths (map change_of c.args.files.now.changes.now) c.args.files.now.before.now c.args.files.now.after.now c.requires.differ in
    let languages = same_languages (map change_of c.args.files.now.changes.now) c.args.files.now.before.now c.args.files.now.after.now c.requires.differ in
    let more = next_left c.args.files.now.before.now c.args.files.now.after.now c.loop-place.place (map change_of c.loop-place.left.now) (map change_of c.in_ok-left.left.now)
    (g.S.Store.holds c.loop-place.store) (g.S.Store.holds c.replace_file.new.store) paths lt c.loop-place.invariant.differ c.in_ok-left.ensures.ok in
    record {
      holds = next_replaced (g.S.Store.holds c.args.store.now) c.args.files.now.before.now c.args.files.now.after.now c.loop-place.place lt paths languages c.len-place-end.ensures.workspace.ordered
          (g.S.Store.holds c.loop-place.store) (g.S.Store.holds c.replace_file.new.store) c.loop-place.invariant.holds more.1;
      differ = more.0;
      count = c.in_ok-left.ensures.count ∙ c.loop-place.invariant.count;
    }

pub returns-clause-ok : goal.returns-clause-ok
returns-clause-ok g c =
    let end : c.loop-place.place ≡ length c.args.files.now.after.now = omega arith in
    let paths : paths_of c.args.files.now.after.now ≡ paths_of c.args.files.now.before.now = same_paths (map change_of c.args.files.now.changes.now) c.args.files.now.before.now c.args.files.now.after.now c.requires.differ in
    all_replaced (g.S.Store.holds c.args.store.now) (g.S.Store.holds c.loop-place.store) c.args.files.now.before.now c.args.files.now.after.now c.loop-place.place paths end c.loop-place.invariant.holds
