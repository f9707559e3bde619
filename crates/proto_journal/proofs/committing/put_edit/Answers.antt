use Rattle.std.proofs.Common.{ℕ, List, map, refl, sym, subst, Option, Some}
use Rattle.std.proofs.lemmas.Result.{err_from_is_err_and}
use Rattle.proto_files.specs.GivenFiles.{FileOf}
use Rattle.proto_edit_entries.proofs.Common.{ChangeOf, Asked, change_of}
use Rattle.proto_edit.specs.Answers.{asked}
use Rattle.proto_journal_records.proofs.Common.{done, opened, Over}
use Rattle.proto_store.specs.Stores.{Held, HoldsFiles}
use Rattle.proto_journal.specs.Written.{AddsTo, Passes, IsReadyText}
use Rattle.proto_journal.proofs.Committed.{commit_cut, committed, counts_unprepared, not_asked, unprepared}
use Rattle.proto_journal.proofs.Recorded.{ready_of_text, text_over}
use Rattle.proto_journal.proofs.Holdings.{passes_from, through_from}
use Rattle.proto_journal.proofs.PutPaths.{differ_from, step_differs}
use Rattle.proto_journal.proofs.committing.put_edit.Goals as goal

pub returns-in_err-made-clause-outcome : goal.returns-in_err-made-clause-outcome
returns-in_err-made-clause-outcome g c =
    let old : Option Held = g.S.Store.holds c.args.store.now in
    let there : Over old (IsReadyText c.as_slice.result.now) = subst (λ (t : List ℕ). Over old (IsReadyText t)) (sym c.as_slice.ensures.value) (text_over old c.args.journal c.in_ok-text.text.items c.requires.journal c.in_ok-text.ensures) in
    let p = err_from_is_err_and c.from_residual-in_err-made.result c.from_residual-in_err-made.ensures.1 in
    rw (p.1, p.2) (unprepared (asked c.args.edit) c.args.workspace.now old old c.as_slice.result.now _ refl
    (ready_of_text old c.as_slice.result.now there) there c.in_err-made.ensures.err)

pub write_through-requires-clause-differ : goal.write_through-requires-clause-differ
write_through-requires-clause-differ g c =
    differ_from c.files.result.now c.args.workspace.now c.files-2.result.now c.in_ok-made.made.next (map change_of c.changes-2.result.now) c.in_ok-made.made.entry c.files.ensures.files c.files-2.ensures.files
    c.changes-2.ensures.items
    (step_differs c.args.workspace.now c.in_ok-made.made.next (asked c.args.edit) c.in_ok-made.made.entry c.files.ensures.compiled c.changes-2.ensures.entry c.in_ok-made.ensures.step)

pub write_through-requires-clause-files : goal.write_through-requires-clause-files
write_through-requires-clause-files g c =
    subst (λ (files : List FileOf). HoldsFiles (g.S.Store.holds c.ask_store.new.store) files) (sym c.files.ensures.files)
    (subst (λ (h : Option Held). HoldsFiles h c.args.workspace.now) (sym c.ask_store.ensures.same) c.requires.loaded)

pub returns-clause-outcome : goal.returns-clause-outcome
returns-clause-outcome g c =
    let old : Option Held = g.S.Store.holds c.args.store.now in
    let journal : List ℕ = c.as_slice.result.now in
    let entry : List ChangeOf = c.in_ok-made.made.entry in
    let e : Asked = asked c.args.edit in
    let there : Over old (IsReadyText journal) = subst (λ (t : List ℕ). Over old (IsReadyText t)) (sym c.as_slice.ensures.value) (text_over old c.args.journal c.in_ok-text.text.items c.requires.journal c.in_ok-text.ensures) in
    let first : AddsTo journal (opened (Some e) entry) c.as_slice-first.result.now = subst (λ (t : List ℕ). AddsTo journal (opened (Some e) entry) t) (sym c.as_slice-first.ensures.value) c.in_ok-made.ensures.first in
    let last : AddsTo journal (done (Some e) entry) c.as_slice-last.result.now = subst (λ (t : List ℕ). AddsTo journal (done (Some e) entry) t) (sym c.as_slice-last.ensures.value) c.in_ok-made.ensures.last in
    let passes : Passes c.args.workspace.now c.in_ok-made.made.next c.as_slice-first.result.now c.as_slice-last.result.now old (g.S.Store.holds c.write_through.new.store) =
    passes_from c.files.result.now c.args.workspace.now c.files-2.result.now c.in_ok-made.made.next c.as_slice-first.result.now c.as_slice-last.result.now (g.S.Store.holds c.ask_store.new.store) old
    (g.S.Store.holds c.write_through.new.store) c.files.ensures.files c.files-2.ensures.files c.ask_store.ensures.same c.in-Err-Failed.ensures.err in (
      refl,
      commit_cut e journal c.as_slice-first.result.now c.as_slice-last.result.now entry first last c.args.workspace.now c.in_ok-made.made.next c.in_ok-made.ensures.step old
          (g.S.Store.holds c.write_through.new.store) there passes,
    )

pub returns-in-Ok-write_through-clause-outcome : goal.returns-in-Ok-write_through-clause-outcome
returns-in-Ok-write_through-clause-outcome g c =
    let old : Option Held = g.S.Store.holds c.args.store.now in
    let journal : List ℕ = c.as_slice.result.now in
    let entry : List ChangeOf = c.in_ok-made.made.entry in
    let e : Asked = asked c.args.edit in
    let there : Over old (IsReadyText journal) = subst (λ (t : List ℕ). Over old (IsReadyText t)) (sym c.as_slice.ensures.value) (text_over old c.args.journal c.in_ok-text.text.items c.requires.journal c.in_ok-text.ensures) in
    let first : AddsTo journal (opened (Some e) entry) c.as_slice-first.result.now = subst (λ (t : List ℕ). AddsTo journal (opened (Some e) entry) t) (sym c.as_slice-first.ensures.value) c.in_ok-made.ensures.first in
    let last : AddsTo journal (done (Some e) entry) c.as_slice-last.result.now = subst (λ (t : List ℕ). AddsTo journal (done (Some e) entry) t) (sym c.as_slice-last.ensures.value) c.in_ok-made.ensures.last in
    rw c.replace.ensures.after (committed e journal c.as_slice-first.result.now c.as_slice-last.result.now entry first last c.args.workspace.now c.in_ok-made.made.next c.in_ok-made.ensures.step old
    (g.S.Store.holds c.write_through.new.store) there
    (through_from c.files-2.result.now c.in_ok-made.made.next c.as_slice-last.result.now (g.S.Store.holds c.ask_store.new.store) old (g.S.Store.holds c.write_through.new.store)
    c.files-2.ensures.files c.ask_store.ensures.same c.in-Ok-write_through.ensures.ok))

pub returns-in_err-made-clause-count : goal.returns-in_err-made-clause-count
returns-in_err-made-clause-count g c =
    let p = err_from_is_err_and c.from_residual-in_err-made.result c.from_residual-in_err-made.ensures.1 in
    rw (p.1, p.2) (counts_unprepared (g.S.Store.failure_count c.args.store.now) (g.S.Store.failure_count c.args.store.now) c.args.workspace.now (asked c.args.edit) c.as_slice.result.now _
    refl c.in_err-made.ensures.err)

pub returns-in-Err-clause-outcome : goal.returns-in-Err-clause-outcome
returns-in-Err-clause-outcome g c =
    not_asked (asked c.args.edit) c.args.workspace.now (g.S.Store.holds c.args.store.now) (g.S.Store.holds c.ask_store.new.store) _ c.ask_store.ensures.same c.in-Err.ensures.fault

pub returns-in-Err-clause-count : goal.returns-in-Err-clause-count
returns-in-Err-clause-count g c =
    c.in-Err.ensures.count
