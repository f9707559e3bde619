-- What a recovery answers, from what it read, made and wrote.
use Rattle.std.proofs.Common.{◌≡◌, ◌⊎◌, inl, inr, ℕ, true, List, [], ◌∷◌, ◌++◌, take, Option, Some, None, Ok, Err, refl, sym, ap, ◌∙◌, subst, option_map, Contains}
use Rattle.std.proofs.lemmas.List.Elements.{recursion_from_All}
use Rattle.proto_files.specs.GivenFiles.{FileOf}
use Rattle.proto_edit_entries.proofs.Common.{ChangeOf, IsEntry, Asked}
use Rattle.proto_journal_records.specs.Common.{JournalFault, State, IsJournal, IsRecord, is_last_open, is_open, journal_text, opened, JournalsShrink, CountsFault, IsStoreOrMemory, Over, ArePutBack, IsRecovered, IsRecovering, RecoverOutcome, AreListedInStore, AreOldFiles, ArePartlyIn, OpenOutcome, with_files, IsTorn, HasStaleFile, IsStaleOnly, IsEitherWay, Version, RecordOf, IsJournalIn}
use Rattle.proto_journal_records.specs.declared.fault.JournalFault.TheVariants as fault
use Rattle.proto_journal_records.specs.declared.record.State.TheVariants as state
use Rattle.proto_store.specs.Stores.{Held, HoldsJournal, IsListed, with_journal}
use Rattle.proto_journal_records.proofs.Comebacks.{entry_of, last_of_all}
use Rattle.proto_journal_records.proofs.OldFiles.{all_back, distinct, olds_listed, some_back}
use Rattle.proto_journal_records.proofs.OneRecovery.{last_of}
use Rattle.proto_journal_records.proofs.PutBack.{put_back_was_either}
use Rattle.proto_journal_records.proofs.UnreadJournals.{unread}
use Rattle.proto_edit_entries.specs.declared.refusal.Refusal.TheVariants as refusal

-- ---- the open entry

pub no_open : (bytes : List ℕ) (f : JournalFault) → (f ≡ fault.BadJournal) ⊎ (f ≡ fault.NoMemory)
    → (f ≡ fault.BadJournal → (records : List RecordOf) → IsJournal bytes records → ⊥) → OpenOutcome bytes (Err f)
no_open bytes f which bad = unread (λ (z : JournalFault). OpenOutcome bytes (Err z)) f which bad tt

open_state : (s : State) → is_open s ≡ true → s ≡ state.Open
open_state state.Open e = refl
open_state state.Done e = cc

pub open_there : (bytes : List ℕ) (records before : List RecordOf) (r : RecordOf) → IsJournal bytes records → is_last_open records ≡ true → records ≡ before ++ r ∷ [] → OpenOutcome bytes (Ok (Some r.entry))
open_there bytes records before r (v, j) o e =
    let whole : IsJournalIn v bytes (before ++ r ∷ []) = subst (λ (rs : List RecordOf). IsJournalIn v bytes rs) e j in
    let last : is_open r.state ≡ true = sym (last_of before r) ∙ subst (λ (rs : List RecordOf). is_last_open rs ≡ true) e o in
    let is : r ≡ opened r.edit r.entry = ap (λ (s : State). let x : RecordOf = record { state = s; entry = r.entry; edit = r.edit } in x) (open_state r.state last) in
    (v, before, r.edit, subst (λ (x : RecordOf). IsJournalIn v bytes (before ++ x ∷ [])) is whole)

-- ---- what is answered before anything is written

pub over_journal : (h : Option Held) (bytes : List ℕ) (P : List ℕ → Type 0) → HoldsJournal h bytes → P bytes → Over h (λ there. P there.journal)
over_journal None bytes P e p = tt
over_journal (Some there) bytes P e p = subst P e p

pub not_read : (old new : Option Held) (journal : List ℕ) (f : JournalFault) → new ≡ old → HoldsJournal old journal → OpenOutcome journal (Err f) → RecoverOutcome old new (Err f)
not_read old new journal fault.BadJournal same there o = (same, over_journal old journal (λ (t : List ℕ). (records : List RecordOf) → IsJournal t records → ⊥) there o)
not_read old new journal fault.NothingToUndo same there o = absurd o
not_read old new journal fault.OpenEntry same there o = absurd o
not_read old new journal fault.Store same there o = absurd o
not_read old new journal fault.JournalFull same there o = absurd o
not_read old new journal fault.NoMemory same there o = same
not_read old new journal (fault.Refused r) same there o = absurd o

pub counts_unread : (before after : ℕ) (journal : List ℕ) (f : JournalFault) → after ≡ before → OpenOutcome journal (Err f) → CountsFault before after f
counts_unread before after journal fault.BadJournal same o = same
counts_unread before after journal fault.NothingToUndo same o = same
counts_unread before after journal fault.OpenEntry same o = same
counts_unread before after journal fault.Store same o = absurd o
counts_unread before after journal fault.JournalFull same o = same
counts_unread before after journal fault.NoMemory same o = same
counts_unread before after journal (fault.Refused r) same o = same

-- what a journal says of its open entry
abbrev pub IsOpenAt : List ℕ → List ChangeOf → Type 0
IsOpenAt journal entry = (v : Version) × (records : List RecordOf) × (edit : Option Asked) × IsJournalIn v journal (records ++ opened edit entry ∷ [])

stale_file : (old : Option Held) (journal : List ℕ) (entry : List ChangeOf) → HoldsJournal old journal → IsOpenAt journal entry
    → Over old (λ h. (c : ChangeOf) × Contains entry c × (IsEitherWay h.files c → ⊥)) → Over old HasStaleFile
stale_file None journal entry there o s = tt
stale_file (Some h) journal entry there o s =
    (o.0, o.1, o.2, entry, subst (λ (t : List ℕ). IsJournalIn o.0 t (o.1 ++ opened o.2 entry ∷ [])) there o.3, s.0, s.1, s.2)

pub not_found : (old new : Option Held) (journal : List ℕ) (entry : List ChangeOf) (f : JournalFault) → new ≡ old → HoldsJournal old journal → IsOpenAt journal entry
    → IsStaleOnly (Over old (λ h. (c : ChangeOf) × Contains entry c × (IsEitherWay h.files c → ⊥))) f → RecoverOutcome old new (Err f)
not_found old new journal entry fault.BadJournal same there o s = absurd s
not_found old new journal entry fault.NothingToUndo same there o s = absurd s
not_found old new journal entry fault.OpenEntry same there o s = absurd s
not_found old new journal entry fault.Store same there o s = inl same
not_found old new journal entry fault.JournalFull same there o s = absurd s
not_found old new journal entry fault.NoMemory same there o s = same
not_found old new journal entry (fault.Refused refusal.Stale) same there o s = (same, stale_file old journal entry there o s)
not_found old new journal entry (fault.Refused r) same there o s = absurd s

pub not_asked : (old new : Option Held) (f : JournalFault) → new ≡ old → IsStoreOrMemory f → RecoverOutcome old new (Err f)
not_asked old new fault.Store same s = inl same
not_asked old new fault.NoMemory same s = same
not_asked old new f same s = absurd s

-- ---- what is written

module _ (journal short : List ℕ) (entry : List ChangeOf) (olds : List FileOf) (shrink : JournalsShrink)
    (is : (v : Version) (records : List RecordOf) (r : RecordOf) → IsRecord v r → journal ≡ journal_text v (records ++ r ∷ []) → short ≡ journal_text v records) where
  shortened : (v : Version) (records : List RecordOf) (edit : Option Asked) → IsJournalIn v journal (records ++ opened edit entry ∷ []) → IsJournalIn v short records
  shortened v records edit j =
      let last : IsRecord v (opened edit entry) = last_of_all (IsRecord v) records (opened edit entry) (recursion_from_All (IsRecord v) (records ++ opened edit entry ∷ []) j.entries) in
      subst (λ (t : List ℕ). IsJournalIn v t records) (sym (is v records (opened edit entry) last j.text)) (shrink v journal records (opened edit entry) j).0

  module _ (h : Held) (there : journal ≡ h.journal) (o : IsOpenAt journal entry) (old_files : AreOldFiles entry h.files olds) where
    open_in : IsJournalIn o.0 h.journal (o.1 ++ opened o.2 entry ∷ [])
    open_in = subst (λ (t : List ℕ). IsJournalIn o.0 t (o.1 ++ opened o.2 entry ∷ [])) there o.3

    is_entry : IsEntry entry
    is_entry = entry_of o.0 journal o.1 o.2 entry o.3

    back : ArePutBack entry h.files (with_files olds h).files
    back = all_back entry h.files olds (distinct entry is_entry.rising) old_files

    torn : IsTorn o.0 o.1 entry h
    torn = record { edit = o.2; journal = open_in; files = λ c k. put_back_was_either c h.files (with_files olds h).files (back.each c k) }

    done : IsRecovered o.0 o.1 entry h (with_journal short (with_files olds h))
    done = record { torn = torn; files = back; journal = shortened o.0 o.1 o.2 o.3 }

    begun : (n : ℕ) → IsRecovering o.0 o.1 entry h (with_files (take n olds) h)
    begun n = record { torn = torn; files = some_back n entry h.files olds (distinct entry is_entry.rising) old_files; journal = refl }

  pub recovered : (old new : Option Held) → HoldsJournal old journal → IsOpenAt journal entry → Over old (λ h. AreOldFiles entry h.files olds)
      → new ≡ option_map (with_journal short) (option_map (with_files olds) old) → RecoverOutcome old new (Ok true)
  recovered None new there o f e = subst (λ (z : Option Held). RecoverOutcome None z (Ok true)) (sym e) tt
  recovered (Some h) new there o f e = subst (λ (z : Option Held). RecoverOutcome (Some h) z (Ok true)) (sym e) (o.0, o.1, entry, done h there o f)

  pub cut_off : (old new : Option Held) → HoldsJournal old journal → IsOpenAt journal entry → Over old (λ h. AreOldFiles entry h.files olds)
      → ArePartlyIn olds old new ⊎ (new ≡ option_map (with_journal short) (option_map (with_files olds) old)) → RecoverOutcome old new (Err fault.Store)
  cut_off None new there o f (inl p) = inl p.1
  cut_off None new there o f (inr e) = inl e
  cut_off (Some h) new there o f (inl p) =
      subst (λ (z : Option Held). RecoverOutcome (Some h) z (Err fault.Store)) (sym p.1) (inr (o.0, o.1, entry, inl (begun h there o f p.0)))
  cut_off (Some h) new there o f (inr e) =
      subst (λ (z : Option Held). RecoverOutcome (Some h) z (Err fault.Store)) (sym e) (inr (o.0, o.1, entry, inr (done h there o f)))

-- what is put back is listed
pub all_listed : (old mid : Option Held) (entry : List ChangeOf) (olds : List FileOf) → mid ≡ old → Over old (λ h. AreOldFiles entry h.files olds) → AreListedInStore mid olds
all_listed None mid entry olds same f x k = subst (λ (z : Option Held). IsListed z x.path) (sym same) tt
all_listed (Some h) mid entry olds same f x k = subst (λ (z : Option Held). IsListed z x.path) (sym same) (olds_listed entry h.files olds f x k)
