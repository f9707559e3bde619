-- What an undo answers, from what it read, made and wrote.
use Rattle.std.proofs.Common.{◌≡◌, ◌⊎◌, inl, inr, ℕ, List, [], ◌∷◌, ◌++◌, Option, Some, None, Err, refl, sym, ◌∙◌, subst, option_map}
use Rattle.proto_files.specs.GivenFiles.{FileOf, paths_of}
use Rattle.proto_edit_entries.proofs.Common.{ChangeOf, Asked}
use Rattle.proto_edit_entries.specs.declared.refusal.Refusal.{Refusal}
use Rattle.proto_edit_entries.specs.declared.refusal.Refusal.TheVariants as refusal
use Rattle.proto_edit.specs.Answers.{IsUndoRefusal}
use Rattle.proto_edit.specs.Workspaces.{IsUndo}
use Rattle.proto_journal_records.specs.declared.fault.JournalFault.{JournalFault}
use Rattle.proto_journal_records.specs.declared.fault.JournalFault.TheVariants as fault
use Rattle.proto_journal_records.specs.declared.record.Version.{Version}
use Rattle.proto_journal_records.proofs.Common.{fault_of_refusal, done, opened, CountsFault, IsStoreOrMemory, Over, OverBoth, IsBetween, Keeps, RecordOf, IsJournalIn}
use Rattle.proto_store.specs.Stores.{Held, HoldsJournal, languages_of}
use Rattle.proto_journal.specs.Common.{EndsIn, IsTornByUndo, IsUndone, IsUndoCut, UndoOutcome, HasLast, IsUnready, Passes, Reopens, Shortens, held}
use Rattle.proto_journal.proofs.Committed.{stays}
use Rattle.proto_journal.proofs.Recorded.{over_journal}

abbrev pub EndsSo : List ChangeOf → Held → Type 0
EndsSo entry held = (version : Version) × (records : List RecordOf) × EndsIn version records entry held

pub ends_there : (old : Option Held) (journal : List ℕ) (version : Version) (last : RecordOf) → HoldsJournal old journal → HasLast version journal (Some last) → Over old (EndsSo last.entry)
ends_there None journal version last there l = tt
ends_there (Some then) journal version last there l =
    (version, l.0, (last.edit, subst (λ (t : List ℕ). IsJournalIn version t (l.0 ++ done last.edit last.entry ∷ [])) there l.1))

-- ---- refused

pub not_ready : (from : List FileOf) (old new : Option Held) (f : JournalFault) → new ≡ old → IsUnready old f → UndoOutcome from from old new (Err f)
not_ready from old new fault.BadJournal same r = (stays from old new same, r)
not_ready from old new fault.NothingToUndo same r = absurd r
not_ready from old new fault.OpenEntry same r = (stays from old new same, r)
not_ready from old new fault.Store same r = (refl, inl same)
not_ready from old new fault.JournalFull same r = absurd r
not_ready from old new fault.NoMemory same r = stays from old new same
not_ready from old new (fault.Refused x) same r = absurd r

pub no_entry : (from : List FileOf) (old new : Option Held) (journal : List ℕ) (version : Version) → new ≡ old → HoldsJournal old journal → HasLast version journal None → UndoOutcome from from old new (Err fault.NothingToUndo)
no_entry from old new journal version same there l = (stays from old new same, over_journal old journal (λ (t : List ℕ). t ≡ []) there l.text)

pub stale : (from : List FileOf) (old new : Option Held) (journal : List ℕ) (version : Version) (last : RecordOf) (r : Refusal) → new ≡ old → HoldsJournal old journal → HasLast version journal (Some last)
    → (entry : List ChangeOf) → entry ≡ last.entry → IsUndoRefusal from entry r → UndoOutcome from from old new (Err (fault_of_refusal r))
stale from old new journal version last refusal.Stale same there l entry is u =
    (stays from old new same, (last.entry, subst (λ (e : List ChangeOf). IsUndoRefusal from e refusal.Stale) is u, ends_there old journal version last there l))
stale from old new journal version last refusal.NoMemory same there l entry is u = stays from old new same
stale from old new journal version last r same there l entry is u = absurd u

pub not_asked : (from : List FileOf) (old new : Option Held) (f : JournalFault) → new ≡ old → IsStoreOrMemory f → UndoOutcome from from old new (Err f)
not_asked from old new fault.Store same s = (refl, inl same)
not_asked from old new fault.NoMemory same s = stays from old new same
not_asked from old new f same s = absurd s

pub counts_stale : (before after : ℕ) (r : Refusal) → after ≡ before → CountsFault before after (fault_of_refusal r)
counts_stale before after refusal.NoMemory same = same
counts_stale before after r same = same

-- ---- written

module _ (journal first last : List ℕ) (version : Version) (edit : Option Asked) (entry : List ChangeOf) (first_is : Reopens version journal edit entry first) (last_is : Shortens journal last) where
  abbrev IsLast : Type 0
  IsLast = (records : List RecordOf) × IsJournalIn version journal (records ++ done edit entry ∷ [])

  abbrev ends : (then : Held) (l : IsLast) → journal ≡ then.journal → EndsIn version l.0 entry then
  ends then l there = (edit, subst (λ (t : List ℕ). IsJournalIn version t (l.0 ++ done edit entry ∷ [])) there l.1)

  module _ (from made : List FileOf) (same_paths : paths_of made ≡ paths_of from) (same_languages : languages_of made ≡ languages_of from) where
    abbrev IsMade : Held → Held → Type 0
    IsMade then now = (v : Version) × (records : List RecordOf) × EndsIn v records entry then × Keeps v made records now

    abbrev IsBegun : Held → Held → Type 0
    IsBegun then now = (v : Version) × (records : List RecordOf) × (ends_in : EndsIn v records entry then)
        × (IsTornByUndo v records entry then ends_in made from now ⊎ Keeps v made records now)

    -- files between are between either way round
    turned : (files : List FileOf) → IsBetween from made files → IsBetween made from files
    turned files b = record {
      paths = b.paths ∙ sym same_paths;
      languages = b.languages ∙ sym same_languages;
      bytes = λ path. (elim (b.bytes path) [
        | inl h ↦ inr h
        | inr h ↦ inl h
      ]);
    }

    torn : (old new : Option Held) → IsLast → HoldsJournal old journal → OverBoth old new (λ then now. (now.journal ≡ first) × IsBetween from made now.files) → OverBoth old new IsBegun
    torn None None l there b = tt
    torn None (Some now) l there b = absurd b
    torn (Some then) None l there b = absurd b
    torn (Some then) (Some now) l there b =
        let text : IsJournalIn version now.journal (l.0 ++ opened edit entry ∷ []) = subst (λ (t : List ℕ). IsJournalIn version t (l.0 ++ opened edit entry ∷ [])) (sym b.0) (first_is l.0 l.1) in
        (version, l.0, ends then l there, inl (record { edit = edit; journal = text; files = turned now.files b.1 }, refl))

    through : (old : Option Held) → IsLast → HoldsJournal old journal → OverBoth old (option_map (λ h. held made last) old) IsMade
    through None l there = tt
    through (Some then) l there = (version, l.0, ends then l there, record { has = refl; journal = last_is version l.0 (done edit entry) l.1 })

    landed : (old : Option Held) → IsLast → HoldsJournal old journal → OverBoth old (option_map (λ h. held made last) old) IsBegun
    landed None l there = tt
    landed (Some then) l there = let t = through (Some then) l there in (t.0, t.1, t.2, inr t.3)

    module _ (undo : IsUndo from entry made) where
      pub undo_cut : (old new : Option Held) → IsLast → HoldsJournal old journal → Passes from made first last old new → IsUndoCut from old new
      undo_cut old new l there p = elim p [
        | inl same ↦ inl same
        | inr rest ↦ elim rest [
          | inl b ↦ inr (entry, made, undo, torn old new l there b)
          | inr done_is ↦ inr (entry, made, undo, subst (λ (z : Option Held). OverBoth old z IsBegun) (sym done_is) (landed old l there))
        ]
      ]

      pub undone : (old new : Option Held) → IsLast → HoldsJournal old journal → new ≡ option_map (λ h. held made last) old → IsUndone entry from made old new
      undone old new l there n = record {
        files = undo;
        store = subst (λ (z : Option Held). OverBoth old z IsMade) (sym n) (through old l there);
      }
