use Rattle.std.proofs.Common.{arith, List, ℕ, ◌+◌, ◌≤◌, ◌<◌, ◌-◌, ◌^◌, length, take, map, refl, sym, ap, ◌∙◌, subst, Option, String, option_map, Global, take_all}
use Rattle.proto_base.proofs.Common.{Vec, err_from_is_err_and}
use Rattle.proto_files.specs.GivenFiles.{FileOf, file_of, files_of}
use Rattle.proto_edit_entries.specs.declared.entry.Change.{Change}
use Rattle.proto_edit_entries.specs.Entries.{ChangeOf, change_of}
use Rattle.proto_store.specs.Stores.{Held}
use Rattle.proto_journal_records.specs.Common.{Over, AddsOldFiles, IsAskedFor}
use Rattle.proto_journal_records.proofs.OldTexts.{among, back_at, change_at, counts_from, next_added, none_added, stale_in, with_none, with_some}
use Rattle.proto_journal_records.proofs.restoring.add_each.Goals as goal
use Rattle.proto_journal_records.proofs.restoring.add_each.Goals.{in-Some+in_ok-push, in_default}

pub loop-place-init : goal.loop-place-init
loop-place-init g c = record { so_far = none_added (g.S.Store.holds c.args.store.now) (files_of c.args.files.now.items); same = refl; count = refl }

pub old_file-requires-clause-known : goal.old_file-requires-clause-known
old_file-requires-clause-known g c =
    let known : List (List ℕ) = map (λ k. k.now) c.args.known.now.keys in
    subst (λ (h : Option Held). Over h (λ there. IsAskedFor known there.files)) (sym c.loop-place.invariant.same) c.requires.known

pub old_file-requires-clause-change : goal.old_file-requires-clause-change
old_file-requires-clause-change g c =
    change_at c.args.entry.now c.changes-changes.result.now c.loop-place.place c.index-changes-place.result c.changes-changes.ensures.entry c.changes-changes.ensures.items c.loop-place-test.true
    c.index-changes-place.is

pub old_file-requires-clause-back : goal.old_file-requires-clause-back
old_file-requires-clause-back g c =
    back_at c.changes-changes.result.now c.in_ok-back.back.items c.loop-place.place c.index-changes-place.result c.index.result.now
    c.in_ok-back.ensures c.loop-place-test.true c.index-changes-place.is c.index.ensures

pub returns-in_err-file-clause-err : goal.returns-in_err-file-clause-err
returns-in_err-file-clause-err g c =
    let p = err_from_is_err_and c.from_residual-in_err-file.result c.from_residual-in_err-file.ensures.1 in
    rw (p.1, p.2) (stale_in (g.S.Store.holds c.args.store.now) (g.S.Store.holds c.loop-place.store) c.args.entry.now (change_of c.index-changes-place.result) _ c.loop-place.invariant.same
    (among c.args.entry.now c.changes-changes.result.now c.loop-place.place c.index-changes-place.result c.changes-changes.ensures.items c.loop-place-test.true c.index-changes-place.is)
    c.in_err-file.ensures.err)

pub loop-place-preserved : goal.loop-place-preserved
loop-place-preserved g c =
    let held : Option Held = g.S.Store.holds c.args.store.now in
    let changes : List Change = c.changes-changes.result.now in
    let files : List (String Global × Vec ℕ) = c.loop-place.files.items in
    let found : Option (String Global × Vec ℕ) = c.in_ok-file.field-0 in
    let so_far = AddsOldFiles (map change_of (take (c.loop-place.place + 1) changes)) held (files_of c.args.files.now.items) in
    let more = λ (after : List FileOf). next_added held (g.S.Store.holds c.loop-place.store) changes c.loop-place.place c.index-changes-place.result (files_of c.args.files.now.items) (files_of files) after
    (option_map file_of found) c.loop-place.invariant.same c.loop-place-test.true c.index-changes-place.is c.loop-place.invariant.so_far c.in_ok-file.ensures.ok in
    record {
      so_far = elim c.match-branch-3.branch [
        | in-Some+in_ok-push w ↦ subst (λ (v : Vec (String Global × Vec ℕ)). so_far (files_of v.items)) (sym w.files-is)
            (more _ (with_some files w.push.new.self.items found w.in-Some.file w.in-Some.is w.in_ok-push.ensures.items))
        | in_default w ↦ subst (λ (v : Vec (String Global × Vec ℕ)). so_far (files_of v.items)) (sym w.files-is) (more _ (with_none files files found w.in_default.is refl))
      ];
      same = c.in_ok-file.ensures.same ∙ c.loop-place.invariant.same;
      count = c.in_ok-file.ensures.count ∙ c.loop-place.invariant.count;
    }

pub returns-clause-ok : goal.returns-clause-ok
returns-clause-ok g c =
    let held : Option Held = g.S.Store.holds c.args.store.now in
    let changes : List Change = c.changes-changes.result.now in
    let end : length changes ≤ c.loop-place.place = omega (arith, c.loop-place-test.false) in
    subst (λ (cs : List ChangeOf). AddsOldFiles cs held (files_of c.args.files.now.items) (files_of c.loop-place.files.items))
    (ap (map change_of) (take_all c.loop-place.place changes end) ∙ c.changes-changes.ensures.items) c.loop-place.invariant.so_far

pub returns-in_err-file-clause-same : goal.returns-in_err-file-clause-same
returns-in_err-file-clause-same g c = c.in_err-file.ensures.same ∙ c.loop-place.invariant.same

pub returns-in_err-file-clause-count : goal.returns-in_err-file-clause-count
returns-in_err-file-clause-count g c =
    let p = err_from_is_err_and c.from_residual-in_err-file.result c.from_residual-in_err-file.ensures.1 in
    rw (p.1, p.2) (counts_from (g.S.Store.holds c.loop-place.store) (change_of c.index-changes-place.result) (g.S.Store.failure_count c.args.store.now) (g.S.Store.failure_count c.loop-place.store) (g.S.Store.failure_count c.old_file.new.store) _ c.loop-place.invariant.count
    c.in_err-file.ensures.err c.in_err-file.ensures.count)

pub old_file-requires-clause-room : goal.old_file-requires-clause-room
old_file-requires-clause-room g c = subst (λ n. n < 2 ^ 64 - 1) (sym c.loop-place.invariant.count) c.requires.room
