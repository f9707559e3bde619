use Rattle.std.proofs.Common.{map, sym, subst, Option}
use Rattle.proto_edit_entries.specs.Entries.{change_of}
use Rattle.proto_store.specs.Stores.{Held, HoldsFiles}
use Rattle.proto_journal.proofs.Holdings.{cut_files, cut_first, cut_last, files_stay, went_through}
use Rattle.proto_journal.proofs.Replacing.{err_of, on_err, on_ok, same_languages, same_paths}
use Rattle.proto_journal.proofs.writing.write_through.Goals as goal

pub replace_files-requires-clause-files : goal.replace_files-requires-clause-files
replace_files-requires-clause-files g c =
    subst (λ (z : Option Held). HoldsFiles z c.args.files.now.before.now) (sym c.in_ok-replace_journal.ensures.ok)
    (files_stay (g.S.Store.holds c.args.store.now) c.args.first.now c.args.files.now.before.now c.requires.files)

pub returns-in_err-replace_journal-clause-err : goal.returns-in_err-replace_journal-clause-err
returns-in_err-replace_journal-clause-err g c =
    err_of _ _ (cut_first c.args.files.now.before.now c.args.files.now.after.now c.args.first.now c.args.last.now (g.S.Store.holds c.args.store.now) (g.S.Store.holds c.replace_journal.new.self) c.requires.files
    c.in_err-replace_journal.ensures.err)

pub returns-in_err-replace_files-clause-err : goal.returns-in_err-replace_files-clause-err
returns-in_err-replace_files-clause-err g c =
    err_of _ _ (cut_files c.args.files.now.before.now c.args.files.now.after.now c.args.first.now c.args.last.now (g.S.Store.holds c.args.store.now) (g.S.Store.holds c.replace_journal.new.self)
    (g.S.Store.holds c.replace_files.new.store) c.in_ok-replace_journal.ensures.ok c.in_err-replace_files.ensures.err)

pub returns-clause-err : goal.returns-clause-err
returns-clause-err g c =
    on_err c.replace_journal-2.result _ _ (λ e. cut_last c.args.files.now.before.now c.args.files.now.after.now c.args.first.now c.args.last.now (g.S.Store.holds c.args.store.now)
    (g.S.Store.holds c.replace_journal.new.self) (g.S.Store.holds c.replace_files.new.store) (g.S.Store.holds c.replace_journal-2.new.self) (same_paths (map change_of c.args.files.now.changes.now) c.args.files.now.before.now c.args.files.now.after.now c.requires.differ) (same_languages (map change_of c.args.files.now.changes.now) c.args.files.now.before.now c.args.files.now.after.now c.requires.differ) c.in_ok-replace_journal.ensures.ok
    c.in_ok-replace_files.ensures.ok e) c.replace_journal-2.ensures.err

pub returns-clause-ok : goal.returns-clause-ok
returns-clause-ok g c =
    on_ok c.replace_journal-2.result _ _ (λ e. went_through c.args.files.now.before.now c.args.files.now.after.now c.args.first.now c.args.last.now (g.S.Store.holds c.args.store.now)
    (g.S.Store.holds c.replace_journal.new.self) (g.S.Store.holds c.replace_files.new.store) (g.S.Store.holds c.replace_journal-2.new.self) c.in_ok-replace_journal.ensures.ok
    c.in_ok-replace_files.ensures.ok e) c.replace_journal-2.ensures.ok
