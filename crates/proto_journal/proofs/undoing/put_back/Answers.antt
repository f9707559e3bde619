use Rattle.std.proofs.Common.{◌≡◌, ℕ, List, map, refl, sym, ◌∙◌, subst, Option, Some}
use Rattle.std.proofs.lemmas.Result.{err_from_is_err_and}
use Rattle.proto_files.specs.GivenFiles.{FileOf}
use Rattle.proto_edit_entries.proofs.Common.{Asked, ChangeOf, IsEntry, change_of}
use Rattle.proto_edit.specs.Workspaces.{IsUndo}
use Rattle.proto_journal_records.specs.declared.record.Version.{Version}
use Rattle.proto_journal_records.proofs.Common.{RecordOf, done}
use Rattle.proto_journal.proofs.Grown.{last_record}
use Rattle.proto_store.specs.Stores.{Held, HoldsFiles, HoldsJournal}
use Rattle.proto_journal.specs.Undoing.{IsUndone}
use Rattle.proto_journal.specs.Written.{HasLast, Passes, Reopens}
use Rattle.proto_journal.proofs.Holdings.{passes_from, through_from}
use Rattle.proto_journal.proofs.PutPaths.{differ_from, undo_differs, undo_languages, undo_paths}
use Rattle.proto_journal.proofs.Undone.{counts_stale, no_entry, not_asked, stale, undo_cut, undone}
use Rattle.proto_journal.proofs.undoing.put_back.Goals as goal

-- the last record, as it was taken out
here : (v : Version) (bytes text : List ℕ) (last : Option RecordOf) (r : RecordOf) → bytes ≡ text → last ≡ Some r → HasLast v bytes last → HasLast v text (Some r)
here v bytes text last r same is j = subst (λ (t : List ℕ). HasLast v t (Some r)) same (subst (λ (o : Option RecordOf). HasLast v bytes o) is j)

pub returns-in_err-next-clause-outcome : goal.returns-in_err-next-clause-outcome
returns-in_err-next-clause-outcome g c =
    let old : Option Held = g.S.Store.holds c.args.store.now in
    let there : HoldsJournal old c.as_slice-text.result.now = subst (λ (t : List ℕ). HoldsJournal old t) (sym c.journal.view_is ∙ sym c.as_slice-text.ensures.value) c.requires.journal in
    let p = err_from_is_err_and c.from_residual-in_err-next.result c.from_residual-in_err-next.ensures.1 in
    rw (p.1, p.2) (stale c.args.workspace.now old old c.as_slice-text.result.now c.journal.inside.version c.in-Some.undone _ refl there (here c.journal.inside.version c.journal.inside.bytes.items c.as_slice-text.result.now c.journal.inside.last c.in-Some.undone (sym c.as_slice-text.ensures.value) c.in-Some.is c.journal.invariant)
    c.entry.result.now c.entry.ensures c.in_err-next.ensures.err)

pub reopened_journal-requires : goal.reopened_journal-requires
reopened_journal-requires g c =
    let last = here c.journal.inside.version c.journal.inside.bytes.items c.as_slice-text.result.now c.journal.inside.last c.in-Some.undone (sym c.as_slice-text.ensures.value) c.in-Some.is c.journal.invariant in
    (last_record c.journal.inside.version last.0 (done c.in-Some.undone.edit c.in-Some.undone.entry) last.1.entries).edit

pub write_through-requires-clause-differ : goal.write_through-requires-clause-differ
write_through-requires-clause-differ g c =
    let entry : List ChangeOf = c.in-Some.undone.entry in
    let items : map change_of c.changes-2.result.now ≡ entry = c.changes-2.ensures.items ∙ c.entry-3.ensures in
    let is : IsEntry entry = subst IsEntry c.entry-3.ensures c.changes-2.ensures.entry in
    differ_from c.files.result.now c.args.workspace.now c.files-2.result.now c.in_ok-next.next (map change_of c.changes-2.result.now) entry c.files.ensures.files c.files-2.ensures.files items
    (undo_differs c.args.workspace.now c.in_ok-next.next entry c.files.ensures.compiled is
    (subst (λ (e : List ChangeOf). IsUndo c.args.workspace.now e c.in_ok-next.next) c.entry.ensures c.in_ok-next.ensures.ok))

pub write_through-requires-clause-files : goal.write_through-requires-clause-files
write_through-requires-clause-files g c =
    subst (λ (files : List FileOf). HoldsFiles (g.S.Store.holds c.ask_store.new.store) files) (sym c.files.ensures.files)
    (subst (λ (h : Option Held). HoldsFiles h c.args.workspace.now) (sym c.ask_store.ensures.same) c.requires.loaded)

pub returns-clause-outcome : goal.returns-clause-outcome
returns-clause-outcome g c =
    let old : Option Held = g.S.Store.holds c.args.store.now in
    let journal : List ℕ = c.as_slice-text.result.now in
    let version : Version = c.journal.inside.version in
    let edit : Option Asked = c.in-Some.undone.edit in
    let entry : List ChangeOf = c.in-Some.undone.entry in
    let is : IsUndo c.args.workspace.now entry c.in_ok-next.next = subst (λ (e : List ChangeOf). IsUndo c.args.workspace.now e c.in_ok-next.next) c.entry.ensures c.in_ok-next.ensures.ok in
    let there : HoldsJournal old journal = subst (λ (t : List ℕ). HoldsJournal old t) (sym c.journal.view_is ∙ sym c.as_slice-text.ensures.value) c.requires.journal in
    let first : Reopens version journal edit entry c.as_slice.result.now = subst (λ (t : List ℕ). Reopens version journal edit entry t) (sym c.as_slice.ensures.value) c.in_ok-first.ensures in
    let passes : Passes c.args.workspace.now c.in_ok-next.next c.as_slice.result.now c.shortened_journal-last.result.now old (g.S.Store.holds c.write_through.new.store) =
    passes_from c.files.result.now c.args.workspace.now c.files-2.result.now c.in_ok-next.next c.as_slice.result.now c.shortened_journal-last.result.now (g.S.Store.holds c.ask_store.new.store) old
    (g.S.Store.holds c.write_through.new.store) c.files.ensures.files c.files-2.ensures.files c.ask_store.ensures.same c.in-Err-Failed.ensures.err in (
      refl,
      undo_cut journal c.as_slice.result.now c.shortened_journal-last.result.now version edit entry first c.shortened_journal-last.ensures c.args.workspace.now c.in_ok-next.next
          (undo_paths c.args.workspace.now c.in_ok-next.next entry is) (undo_languages c.args.workspace.now c.in_ok-next.next entry is) is old (g.S.Store.holds c.write_through.new.store) (here c.journal.inside.version c.journal.inside.bytes.items c.as_slice-text.result.now c.journal.inside.last c.in-Some.undone (sym c.as_slice-text.ensures.value) c.in-Some.is c.journal.invariant) there passes,
    )

pub returns-in-Ok-write_through-clause-outcome : goal.returns-in-Ok-write_through-clause-outcome
returns-in-Ok-write_through-clause-outcome g c =
    let old : Option Held = g.S.Store.holds c.args.store.now in
    let journal : List ℕ = c.as_slice-text.result.now in
    let version : Version = c.journal.inside.version in
    let edit : Option Asked = c.in-Some.undone.edit in
    let entry : List ChangeOf = c.in-Some.undone.entry in
    let is : IsUndo c.args.workspace.now entry c.in_ok-next.next = subst (λ (e : List ChangeOf). IsUndo c.args.workspace.now e c.in_ok-next.next) c.entry.ensures c.in_ok-next.ensures.ok in
    let there : HoldsJournal old journal = subst (λ (t : List ℕ). HoldsJournal old t) (sym c.journal.view_is ∙ sym c.as_slice-text.ensures.value) c.requires.journal in
    let first : Reopens version journal edit entry c.as_slice.result.now = subst (λ (t : List ℕ). Reopens version journal edit entry t) (sym c.as_slice.ensures.value) c.in_ok-first.ensures in
    rw c.replace.ensures.after (subst (λ (e : List ChangeOf). IsUndone e c.args.workspace.now c.in_ok-next.next old (g.S.Store.holds c.write_through.new.store)) (sym c.into_entry.ensures)
    (undone journal c.as_slice.result.now c.shortened_journal-last.result.now version edit entry first c.shortened_journal-last.ensures c.args.workspace.now c.in_ok-next.next
    (undo_paths c.args.workspace.now c.in_ok-next.next entry is) (undo_languages c.args.workspace.now c.in_ok-next.next entry is) is old (g.S.Store.holds c.write_through.new.store) (here c.journal.inside.version c.journal.inside.bytes.items c.as_slice-text.result.now c.journal.inside.last c.in-Some.undone (sym c.as_slice-text.ensures.value) c.in-Some.is c.journal.invariant) there
    (through_from c.files-2.result.now c.in_ok-next.next c.shortened_journal-last.result.now (g.S.Store.holds c.ask_store.new.store) old (g.S.Store.holds c.write_through.new.store)
    c.files-2.ensures.files c.ask_store.ensures.same c.in-Ok-write_through.ensures.ok)))

pub returns-in_err-next-clause-count : goal.returns-in_err-next-clause-count
returns-in_err-next-clause-count g c =
    let p = err_from_is_err_and c.from_residual-in_err-next.result c.from_residual-in_err-next.ensures.1 in
    rw (p.1, p.2) (counts_stale (g.S.Store.failure_count c.args.store.now) (g.S.Store.failure_count c.args.store.now) _ refl)

pub returns-in-Err-clause-outcome : goal.returns-in-Err-clause-outcome
returns-in-Err-clause-outcome g c =
    not_asked c.args.workspace.now (g.S.Store.holds c.args.store.now) (g.S.Store.holds c.ask_store.new.store) _ c.ask_store.ensures.same c.in-Err.ensures.fault

pub returns-in-Err-clause-count : goal.returns-in-Err-clause-count
returns-in-Err-clause-count g c =
    c.in-Err.ensures.count

pub returns-in-None-clause-outcome : goal.returns-in-None-clause-outcome
returns-in-None-clause-outcome g c =
    let old : Option Held = g.S.Store.holds c.args.store.now in
    let there : HoldsJournal old c.journal.inside.bytes.items = subst (λ (t : List ℕ). HoldsJournal old t) (sym c.journal.view_is) c.requires.journal in
    no_entry c.args.workspace.now old old c.journal.inside.bytes.items c.journal.inside.version refl there (subst (λ (o : Option RecordOf). HasLast c.journal.inside.version c.journal.inside.bytes.items o) c.in-None.is c.journal.invariant)
