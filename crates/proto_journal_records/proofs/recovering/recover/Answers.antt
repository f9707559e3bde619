use Rattle.std.proofs.Common.{◌≡◌, ◌⊎◌, List, ℕ, sym, ap, ◌∙◌, subst, Ok, Option, String, option_map, Global, Contains}
use Rattle.std.specs.Global.{Vec}
use Rattle.proto_files.specs.GivenFiles.{FileOf, files_of}
use Rattle.proto_edit_entries.specs.Entries.{ChangeOf}
use Rattle.proto_store.specs.Stores.{Held, HoldsJournal, with_journal}
use Rattle.proto_journal_records.specs.Common.{Over, AreOldFiles, ArePartlyIn, OpenOutcome, with_files, IsStaleOnly, IsEitherWay}
use Rattle.proto_journal_records.proofs.Outcomes.{IsOpenAt, all_listed, cut_off, recovered, not_asked, not_found, not_read}
use Rattle.std.proofs.lemmas.Result.{err_from_is_err_and}
use Rattle.proto_journal_records.proofs.recovering.recover.Goals as goal

pub put_back-requires-clause-listed : goal.put_back-requires-clause-listed
put_back-requires-clause-listed g c =
    let old : Option Held = g.S.Store.holds c.args.store.now in
    let entry : List ChangeOf = c.in-Some.entry in
    let found : Over old (λ h. AreOldFiles entry h.files (files_of c.as_slice-3.result.now)) =
    subst (λ (fs : List (String Global × Vec ℕ)). Over old (λ h. AreOldFiles entry h.files (files_of fs))) (sym c.as_slice-3.ensures.value)
    (subst (λ (z : Option Held). Over z (λ h. AreOldFiles entry h.files (files_of c.in_ok-files.files.items))) c.read_journal.ensures.same c.in_ok-files.ensures.ok) in
    all_listed old (g.S.Store.holds c.ask_store.new.store) entry (files_of c.as_slice-3.result.now) (c.ask_store.ensures.same ∙ c.in_ok-files.ensures.same ∙ c.read_journal.ensures.same) found

pub returns-in-Ok-put_back-clause-outcome : goal.returns-in-Ok-put_back-clause-outcome
returns-in-Ok-put_back-clause-outcome g c =
    let old : Option Held = g.S.Store.holds c.args.store.now in
    let entry : List ChangeOf = c.in-Some.entry in
    let journal : List ℕ = c.as_slice-4.result.now in
    let olds : List FileOf = files_of c.as_slice-3.result.now in
    let found : Over old (λ h. AreOldFiles entry h.files olds) =
    subst (λ (fs : List (String Global × Vec ℕ)). Over old (λ h. AreOldFiles entry h.files (files_of fs))) (sym c.as_slice-3.ensures.value)
    (subst (λ (z : Option Held). Over z (λ h. AreOldFiles entry h.files (files_of c.in_ok-files.files.items))) c.read_journal.ensures.same c.in_ok-files.ensures.ok) in
    let opens : IsOpenAt journal entry = subst (λ (t : List ℕ). IsOpenAt t entry) (c.as_slice.ensures.value ∙ sym c.as_slice-4.ensures.value)
    (subst (λ (o : Option (List ChangeOf)). OpenOutcome c.as_slice.result.now (Ok o)) c.in-Some.is c.in_ok-entry.ensures) in
    let there : HoldsJournal old journal = subst (λ (t : List ℕ). HoldsJournal old t) (sym c.as_slice-4.ensures.value) c.in-Ok.ensures.bytes in
    recovered journal c.without_last.result.now entry olds c.journals_grow_and_shrink.ensures.less c.without_last.ensures old (g.S.Store.holds c.put_back.new.store) there opens found
    (c.in-Ok-put_back.ensures.ok ∙ ap (λ (z : Option Held). option_map (with_journal c.without_last.result.now) (option_map (with_files olds) z)) (c.ask_store.ensures.same ∙ c.in_ok-files.ensures.same ∙ c.read_journal.ensures.same))

pub returns-clause-outcome : goal.returns-clause-outcome
returns-clause-outcome g c =
    let old : Option Held = g.S.Store.holds c.args.store.now in
    let new : Option Held = g.S.Store.holds c.put_back.new.store in
    let entry : List ChangeOf = c.in-Some.entry in
    let journal : List ℕ = c.as_slice-4.result.now in
    let short : List ℕ = c.without_last.result.now in
    let olds : List FileOf = files_of c.as_slice-3.result.now in
    let found : Over old (λ h. AreOldFiles entry h.files olds) =
    subst (λ (fs : List (String Global × Vec ℕ)). Over old (λ h. AreOldFiles entry h.files (files_of fs))) (sym c.as_slice-3.ensures.value)
    (subst (λ (z : Option Held). Over z (λ h. AreOldFiles entry h.files (files_of c.in_ok-files.files.items))) c.read_journal.ensures.same c.in_ok-files.ensures.ok) in
    let opens : IsOpenAt journal entry = subst (λ (t : List ℕ). IsOpenAt t entry) (c.as_slice.ensures.value ∙ sym c.as_slice-4.ensures.value)
    (subst (λ (o : Option (List ChangeOf)). OpenOutcome c.as_slice.result.now (Ok o)) c.in-Some.is c.in_ok-entry.ensures) in
    let there : HoldsJournal old journal = subst (λ (t : List ℕ). HoldsJournal old t) (sym c.as_slice-4.ensures.value) c.in-Ok.ensures.bytes in
    let cut : ArePartlyIn olds old new ⊎ (new ≡ option_map (with_journal short) (option_map (with_files olds) old)) =
    subst (λ (z : Option Held). ArePartlyIn olds z new ⊎ (new ≡ option_map (with_journal short) (option_map (with_files olds) z))) (c.ask_store.ensures.same ∙ c.in_ok-files.ensures.same ∙ c.read_journal.ensures.same)
    c.in-Err-Failed-put_back.ensures.err in
    cut_off journal short entry olds c.journals_grow_and_shrink.ensures.less c.without_last.ensures old new there opens found cut

pub returns-in_err-entry-clause-outcome : goal.returns-in_err-entry-clause-outcome
returns-in_err-entry-clause-outcome g c =
    let old : Option Held = g.S.Store.holds c.args.store.now in
    let new : Option Held = g.S.Store.holds c.read_journal.new.self in
    let p = err_from_is_err_and c.from_residual.result c.from_residual.ensures.1 in
    let there : HoldsJournal old c.as_slice.result.now = subst (λ (t : List ℕ). HoldsJournal old t) (sym c.as_slice.ensures.value) c.in-Ok.ensures.bytes in
    rw (p.1, p.2) (not_read old new c.as_slice.result.now _ c.read_journal.ensures.same there c.in_err-entry.ensures)

pub returns-in_err-files-clause-outcome : goal.returns-in_err-files-clause-outcome
returns-in_err-files-clause-outcome g c =
    let old : Option Held = g.S.Store.holds c.args.store.now in
    let mid : Option Held = g.S.Store.holds c.read_journal.new.self in
    let new : Option Held = g.S.Store.holds c.old_files.new.store in
    let entry : List ChangeOf = c.in-Some.entry in
    let p = err_from_is_err_and c.from_residual-in_err-files.result c.from_residual-in_err-files.ensures.1 in
    let there : HoldsJournal old c.as_slice.result.now = subst (λ (t : List ℕ). HoldsJournal old t) (sym c.as_slice.ensures.value) c.in-Ok.ensures.bytes in
    let opens : IsOpenAt c.as_slice.result.now entry = subst (λ (o : Option (List ChangeOf)). OpenOutcome c.as_slice.result.now (Ok o)) c.in-Some.is c.in_ok-entry.ensures in
    rw (p.1, p.2) (not_found old new c.as_slice.result.now entry c.in_err-files.field-0.0 (c.old_files.ensures.same ∙ c.read_journal.ensures.same) there opens
    (subst (λ (z : Option Held). IsStaleOnly (Over z (λ h. (x : ChangeOf) × Contains entry x × (IsEitherWay h.files x → ⊥))) c.in_err-files.field-0.0) c.read_journal.ensures.same c.in_err-files.ensures.err))

pub returns-in_err-ask_store-clause-outcome : goal.returns-in_err-ask_store-clause-outcome
returns-in_err-ask_store-clause-outcome g c =
    let p = err_from_is_err_and c.from_residual-in_err-ask_store.result c.from_residual-in_err-ask_store.ensures.1 in
    rw (p.1, p.2) (not_asked (g.S.Store.holds c.args.store.now) (g.S.Store.holds c.ask_store.new.store) _ (c.ask_store.ensures.same ∙ c.in_ok-files.ensures.same ∙ c.read_journal.ensures.same)
    c.in_err-ask_store.ensures.fault)
