-- The laws of torn stores and their recovery.
use Rattle.std.specs.Prelude.{◌≡◌, ◌⊎◌, List, Bool, true, false, Option, Some, Result, Ok, Err}
use Rattle.proto_base.specs.Texts.{Text}
use Rattle.proto_files.specs.GivenFiles.{FileOf}
use Rattle.proto_edit_entries.specs.Entries.{ChangeOf, IsChange, IsEntry}
use Rattle.proto_edit_entries.specs.Putting.{IsPut}
use Rattle.proto_journal_records.specs.declared.fault.JournalFault.{JournalFault}
use Rattle.proto_journal_records.specs.declared.fault.JournalFault.TheVariants as fault
use Rattle.proto_journal_records.specs.declared.record.Version.{Version}
use Rattle.proto_journal_records.specs.Records.{RecordOf}
use Rattle.proto_store.specs.Stores.{AreInPathOrder, Held}
use Rattle.proto_journal_records.specs.Known.{IsSettled}
use Rattle.proto_journal_records.specs.Recovery.{RecoverOutcome}
use Rattle.proto_journal_records.specs.Torn.{IsAsAfter, IsAsBefore, IsTorn, IsTornBetween, Keeps}

-- ---- torn stores

-- No text is both as before a change and as after it.
abbrev pub NoTextIsBoth : Type 0
NoTextIsBoth = (c : ChangeOf) (text : Text)
    → IsChange c → IsAsBefore c text → IsAsAfter c text → ⊥

-- A store that is torn between the files before and after an entry is torn: each file of the entry
-- is as before or as after it.
abbrev pub TornBetweenIsTorn : Type 0
TornBetweenIsTorn =
    (version : Version) (records : List RecordOf) (entry : List ChangeOf)
    (before after : List FileOf) (held : Held)
    → IsEntry entry → IsPut before entry after
    → IsTornBetween version records entry before after held → IsTorn version records entry held

-- ---- recovery, where the files of a store are in the order of their paths

-- Where no call of the store fails and memory is there,
-- the store decides what recovery answers and leaves.
abbrev pub RecoveriesAreOne : Type 0
RecoveriesAreOne = (old : Held) (new now : Option Held) (a b : Result Bool JournalFault)
    → AreInPathOrder old.files → IsSettled a → IsSettled b
    → RecoverOutcome (Some old) new a → RecoverOutcome (Some old) now b
    → (a ≡ b) × (new ≡ now)

-- A store that is torn between the files before and after an entry comes back: recovery answers
-- true, and leaves the files before the entry and the journal of the records before it, in the
-- version that it has.
abbrev pub TornComesBack : Type 0
TornComesBack =
    (version : Version) (records : List RecordOf) (entry : List ChangeOf)
    (before after : List FileOf)
    (torn : Held) (new : Option Held) (a : Result Bool JournalFault)
    → AreInPathOrder before → IsEntry entry → IsPut before entry after
    → IsTornBetween version records entry before after torn
    → IsSettled a → RecoverOutcome (Some torn) new a
    → (a ≡ Ok true) × (now : Held) × (new ≡ Some now) × Keeps version before records now

-- Where a call fails while such a store is recovered, it is torn so still, or recovered.
abbrev pub CutStaysTorn : Type 0
CutStaysTorn =
    (version : Version) (records : List RecordOf) (entry : List ChangeOf)
    (before after : List FileOf)
    (torn : Held) (new : Option Held)
    → AreInPathOrder before → IsEntry entry → IsPut before entry after
    → IsTornBetween version records entry before after torn
    → RecoverOutcome (Some torn) new (Err fault.Store)
    → (now : Held) × (new ≡ Some now)
    × (IsTornBetween version records entry before after now ⊎ Keeps version before records now)

-- the answers of a recovery that was not cut off, and of one that comes behind one that was: where
-- that had done all, nothing is left to recover
abbrev pub IsLateAnswer : Result Bool JournalFault → Result Bool JournalFault → Type 0
IsLateAnswer whole late = (late ≡ whole) ⊎ ((whole ≡ Ok true) × (late ≡ Ok false))

-- Recovery goes on: behind one that was cut off, a
-- later one leaves what one leaves that is not cut off.
abbrev pub RecoveryGoesOn : Type 0
RecoveryGoesOn = (old cut : Held) (new : Option Held) (late : Result Bool JournalFault)
    → IsSettled late
    → RecoverOutcome (Some old) (Some cut) (Err fault.Store)
    → RecoverOutcome (Some cut) new late
    → (whole : Result Bool JournalFault)
    × IsLateAnswer whole late × RecoverOutcome (Some old) new whole
