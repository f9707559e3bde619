use Rattle.std.proofs.Common.{List, ℕ, map, sym, ap, ◌∙◌, subst, IfErr, OnOk, Option, String, Global, Contains, bytes_eq, string_bytes}
use Rattle.std.specs.List.{list_any}
use Rattle.proto_files.specs.GivenFiles.{files_of}
use Rattle.proto_edit_entries.specs.Entries.{ChangeOf}
use Rattle.proto_store.specs.Stores.{Held}
use Rattle.proto_journal_records.specs.Common.{CountsJournal, Over, AddsOldFiles, IsAskedFor, IsStaleOnly, IsEitherWay}
use Rattle.proto_journal_records.proofs.OldTexts.{asked_for}
use Rattle.proto_journal_records.proofs.restoring.add_old_files.Goals as goal

pub add_each-requires-clause-known : goal.add_each-requires-clause-known
add_each-requires-clause-known g c =
    let known : List (List ℕ) = map (λ k. k.now) c.in_ok-known.known.keys in
    let held : Option Held = g.S.Store.holds c.args.store.now in
    subst (λ (h : Option Held). Over h (λ there. IsAskedFor known there.files)) (sym c.in-Ok.ensures.same)
    (asked_for held (map string_bytes c.in-Ok.paths.items) known c.in-Ok.ensures.paths
    (λ path. c.in_ok-known.ensures path ∙ ap (λ (xs : List (String Global)). list_any (bytes_eq path) (map string_bytes xs)) c.as_slice.ensures.value))

pub returns-clause-ok : goal.returns-clause-ok
returns-clause-ok g c =
    subst (λ (held : Option Held). OnOk c.add_each.result (AddsOldFiles c.args.entry.now held (files_of c.args.files.now.items) (files_of c.add_each.new.files.items))) c.in-Ok.ensures.same c.add_each.ensures.ok

pub returns-clause-err : goal.returns-clause-err
returns-clause-err g c =
    subst (λ (held : Option Held). IfErr c.add_each.result (IsStaleOnly (Over held (λ h. (x : ChangeOf) × Contains c.args.entry.now x × (IsEitherWay h.files x → ⊥))))) c.in-Ok.ensures.same c.add_each.ensures.err

pub returns-clause-same : goal.returns-clause-same
returns-clause-same g c = c.add_each.ensures.same ∙ c.in-Ok.ensures.same

pub returns-clause-count : goal.returns-clause-count
returns-clause-count g c =
    subst (λ n. CountsJournal n (g.S.Store.failure_count c.add_each.new.store) c.add_each.result) c.in-Ok.ensures.count c.add_each.ensures.count
