-- What a commit answers, from what it read, made and wrote.
use Rattle.std.proofs.Common.{◌≡◌, ◌⊎◌, inl, inr, ℕ, ◌<◌, List, [], ◌∷◌, ◌++◌, length, Option, Some, None, Err, refl, sym, ap, ◌∙◌, subst, option_map}
use Rattle.proto_files.specs.GivenFiles.{FileOf}
use Rattle.proto_edit_entries.specs.Entries.{ChangeOf}
use Rattle.proto_edit_entries.specs.declared.refusal.Refusal.{Refusal}
use Rattle.proto_edit_entries.specs.declared.refusal.Refusal.TheVariants as refusal
use Rattle.proto_edit.specs.Workspaces.{Asked, IsMappedStep, IsRefusal}
use Rattle.proto_journal_records.specs.declared.fault.JournalFault.{JournalFault}
use Rattle.proto_journal_records.specs.declared.fault.JournalFault.TheVariants as fault
use Rattle.proto_journal_records.specs.declared.record.Version.{Version}
use Rattle.proto_journal_records.specs.declared.record.Version.TheVariants.{Second}
use Rattle.proto_journal_records.proofs.Common.{fault_of_refusal, record_text, done, journal_limit, opened, journal_text, IsReady, IsReadyWith, CountsFault, IsStoreOrMemory, Over, OverBoth, IsBetween, Keeps, RecordOf, IsJournalIn}
use Rattle.proto_store.specs.Stores.{Held}
use Rattle.proto_journal.specs.Common.{IsCommitted, IsCommitCut, CommitOutcome, Stays, IsUnready, AddsTo, IsUnprepared, IsUnwritten, Passes, held, IsTornByCommit, IsReadyText}
use Rattle.proto_journal.proofs.Recorded.{text_more}

pub stays : (from : List FileOf) (old new : Option Held) → new ≡ old → Stays from from old new
stays from old new e = record { workspace = refl; store = e }

-- ---- refused

pub not_ready : (e : Asked) (from : List FileOf) (old new : Option Held) (f : JournalFault) → new ≡ old → IsUnready old f → CommitOutcome e from from old new (Err f)
not_ready e from old new fault.BadJournal same r = (stays from old new same, r)
not_ready e from old new fault.NothingToUndo same r = absurd r
not_ready e from old new fault.OpenEntry same r = (stays from old new same, r)
not_ready e from old new fault.Store same r = (refl, inl same)
not_ready e from old new fault.JournalFull same r = absurd r
not_ready e from old new fault.NoMemory same r = stays from old new same
not_ready e from old new (fault.Refused x) same r = absurd r

pub not_asked : (e : Asked) (from : List FileOf) (old new : Option Held) (f : JournalFault) → new ≡ old → IsStoreOrMemory f → CommitOutcome e from from old new (Err f)
not_asked e from old new fault.Store same s = (refl, inl same)
not_asked e from old new fault.NoMemory same s = stays from old new same
not_asked e from old new f same s = absurd s

-- a refusal, as the journal tells it
pub refused : (from : List FileOf) (e : Asked) (journal : List ℕ) (r : Refusal) → IsRefusal from e r → IsUnprepared from e journal (fault_of_refusal r)
refused from e journal refusal.NoMemory is = tt
refused from e journal r is = is

pub unwritten : (from : List FileOf) (e : Asked) (journal : List ℕ) (entry : List ChangeOf) (made : List FileOf) (f : JournalFault) → IsMappedStep from e entry made → IsUnwritten journal e entry f
    → IsUnprepared from e journal f
unwritten from e journal entry made fault.JournalFull step long = (entry, made, step, long)
unwritten from e journal entry made fault.NoMemory step is = tt
unwritten from e journal entry made fault.BadJournal step is = absurd is
unwritten from e journal entry made fault.NothingToUndo step is = absurd is
unwritten from e journal entry made fault.OpenEntry step is = absurd is
unwritten from e journal entry made fault.Store step is = absurd is
unwritten from e journal entry made (fault.Refused r) step is = absurd is

full_there : (e : Asked) (old : Option Held) (journal : List ℕ) (entry : List ChangeOf) → Over old (IsReadyText journal) → journal_limit < length (journal ++ record_text Second (done (Some e) entry))
    → Over old (λ then. (version : Version) × (records : List RecordOf) × IsReadyWith version records then × (journal_limit < length (journal_text Second (records ++ done (Some e) entry ∷ []))))
full_there e None journal entry ready long = tt
full_there e (Some then) journal entry ready long =
    let text : journal ++ record_text Second (done (Some e) entry) ≡ journal_text Second (ready.1 ++ done (Some e) entry ∷ []) =
    ap (λ (t : List ℕ). t ++ record_text Second (done (Some e) entry)) ready.3 ∙ sym (text_more Second ready.1 (done (Some e) entry)) in
    (ready.0, ready.1, ready.2, subst (λ (t : List ℕ). journal_limit < length t) text long)

pub unprepared : (e : Asked) (from : List FileOf) (old new : Option Held) (journal : List ℕ) (f : JournalFault) → new ≡ old → Over old IsReady → Over old (IsReadyText journal)
    → IsUnprepared from e journal f → CommitOutcome e from from old new (Err f)
unprepared e from old new journal fault.BadJournal same ready there u = absurd u
unprepared e from old new journal fault.NothingToUndo same ready there u = absurd u
unprepared e from old new journal fault.OpenEntry same ready there u = absurd u
unprepared e from old new journal fault.Store same ready there u = absurd u
unprepared e from old new journal fault.JournalFull same ready there u = (stays from old new same, (u.0, u.1, u.2, full_there e old journal u.0 there u.3))
unprepared e from old new journal fault.NoMemory same ready there u = stays from old new same
unprepared e from old new journal (fault.Refused refusal.NoMemory) same ready there u = absurd u
unprepared e from old new journal (fault.Refused r) same ready there u = (stays from old new same, ready, u)

pub counts_unprepared : (before after : ℕ) (from : List FileOf) (e : Asked) (journal : List ℕ) (f : JournalFault) → after ≡ before → IsUnprepared from e journal f → CountsFault before after f
counts_unprepared before after from e journal fault.BadJournal same u = same
counts_unprepared before after from e journal fault.NothingToUndo same u = same
counts_unprepared before after from e journal fault.OpenEntry same u = same
counts_unprepared before after from e journal fault.Store same u = absurd u
counts_unprepared before after from e journal fault.JournalFull same u = same
counts_unprepared before after from e journal fault.NoMemory same u = same
counts_unprepared before after from e journal (fault.Refused r) same u = same

-- ---- written

module _ (e : Asked) (journal first last : List ℕ) (entry : List ChangeOf) (first_is : AddsTo journal (opened (Some e) entry) first) (last_is : AddsTo journal (done (Some e) entry) last) where
  module _ (from made : List FileOf) where
    abbrev IsMade : Held → Held → Type 0
    IsMade then now = (version : Version) × (records : List RecordOf) × IsReadyWith version records then × Keeps Second made (records ++ done (Some e) entry ∷ []) now

    abbrev IsBegun : Held → Held → Type 0
    IsBegun then now = (version : Version) × (records : List RecordOf) × IsReadyWith version records then
        × (IsTornByCommit e records entry from made now ⊎ Keeps Second made (records ++ done (Some e) entry ∷ []) now)

    torn : (old new : Option Held) → Over old (IsReadyText journal) → OverBoth old new (λ then now. (now.journal ≡ first) × IsBetween from made now.files) → OverBoth old new IsBegun
    torn None None ready b = tt
    torn None (Some now) ready b = absurd b
    torn (Some then) None ready b = absurd b
    torn (Some then) (Some now) ready b =
        let rs : List RecordOf = ready.1 in
        let text : IsJournalIn Second now.journal (rs ++ opened (Some e) entry ∷ []) =
        subst (λ (t : List ℕ). IsJournalIn Second t (rs ++ opened (Some e) entry ∷ [])) (sym b.0) (first_is ready.0 then.journal rs ready.2.journal ready.2.closed ready.3) in
        (ready.0, rs, ready.2, inl (record { torn = record { edit = Some e; journal = text; files = b.1 }; edit = refl }))

    through : (old : Option Held) → Over old (IsReadyText journal) → OverBoth old (option_map (λ h. held made last) old) IsMade
    through None ready = tt
    through (Some then) ready =
        (ready.0, ready.1, ready.2, record { has = refl; journal = last_is ready.0 then.journal ready.1 ready.2.journal ready.2.closed ready.3 })

    landed : (old : Option Held) → Over old (IsReadyText journal) → OverBoth old (option_map (λ h. held made last) old) IsBegun
    landed None ready = tt
    landed (Some then) ready = let t = through (Some then) ready in (t.0, t.1, t.2, inr t.3)

    module _ (step : IsMappedStep from e entry made) where
      pub commit_cut : (old new : Option Held) → Over old (IsReadyText journal) → Passes from made first last old new → IsCommitCut e from old new
      commit_cut old new ready p = elim p [
        | inl same ↦ inl same
        | inr rest ↦ elim rest [
          | inl b ↦ inr (entry, made, step, torn old new ready b)
          | inr done_is ↦ inr (entry, made, step, subst (λ (z : Option Held). OverBoth old z IsBegun) (sym done_is) (landed old ready))
        ]
      ]

      pub committed : (old new : Option Held) → Over old (IsReadyText journal) → new ≡ option_map (λ h. held made last) old → IsCommitted e entry from made old new
      committed old new ready n = record {
        step = step;
        store = subst (λ (z : Option Held). OverBoth old z IsMade) (sym n) (through old ready);
      }
