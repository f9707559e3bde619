-- The laws of commits and undos, and of torn stores.
use Rattle.std.specs.Prelude.{◌≡◌, ◌⊎◌, List, Bool, Option, Some, Result, Err}
use Rattle.std.specs.String.{string_bytes}
use Rattle.proto_files.specs.GivenFiles.{FileOf}
use Rattle.proto_edit_entries.specs.Entries.{ChangeOf, IsEntry}
use Rattle.proto_edit_entries.specs.declared.refusal.Refusal.{Refusal}
use Rattle.proto_edit_entries.specs.declared.refusal.Refusal.TheVariants as refusal
use Rattle.proto_edit.specs.Compiled.{AreCompiled}
use Rattle.proto_edit.specs.Workspaces.{Asked, IsUndo}
use Rattle.proto_journal_records.specs.declared.fault.JournalFault.{JournalFault}
use Rattle.proto_journal_records.specs.declared.fault.JournalFault.TheVariants as fault
use Rattle.proto_journal_records.specs.declared.record.Version.{Version}
use Rattle.proto_journal_records.specs.declared.record.Version.TheVariants.{First, Second}
use Rattle.proto_journal_records.specs.Records.{RecordOf}
use Rattle.proto_journal_records.specs.Journals.{journal_text}
use Rattle.proto_store.specs.Stores.{AreInPathOrder, Held, HoldsFiles, with_journal}
use Rattle.proto_journal_records.specs.Known.{IsSettled}
use Rattle.proto_journal_records.specs.ReadJournals.{IsReady, IsReadyWith}
use Rattle.proto_journal_records.specs.Recovery.{RecoverOutcome}
use Rattle.proto_journal_records.specs.Torn.{IsTorn, IsTornBetween}
use Rattle.proto_journal.specs.Commits.{CommitOutcome, IsCommitted}
use Rattle.proto_journal.specs.Undoing.{IsUndone, UndoOutcome}

-- two refusals are the same; of those that tell of a place, the path as text
abbrev pub IsSameRefusal : Refusal → Refusal → Type 0
IsSameRefusal (refusal.Captured path offset) (refusal.Captured file other) =
    (string_bytes path ≡ string_bytes file) × (offset ≡ other)
IsSameRefusal (refusal.Needed path offset) (refusal.Needed file other) =
    (string_bytes path ≡ string_bytes file) × (offset ≡ other)
IsSameRefusal (refusal.OptionValue path offset) (refusal.OptionValue file other) =
    (string_bytes path ≡ string_bytes file) × (offset ≡ other)
IsSameRefusal r s = r ≡ s

-- two answers are the same
abbrev pub IsSameAnswer :
    Result (List ChangeOf) JournalFault → Result (List ChangeOf) JournalFault → Type 0
IsSameAnswer (Err (fault.Refused r)) (Err (fault.Refused s)) = IsSameRefusal r s
IsSameAnswer a b = a ≡ b

-- Where no call of the store fails and memory is there, the store and the workspace, whose files
-- compile, decide what a commit answers and leaves.
abbrev pub CommitsAreOne : Type 0
CommitsAreOne =
    (e : Asked) (from to other : List FileOf) (old : Held) (new now : Option Held)
    (a b : Result (List ChangeOf) JournalFault)
    → AreCompiled from → IsSettled a → IsSettled b
    → CommitOutcome e from to (Some old) new a → CommitOutcome e from other (Some old) now b
    → IsSameAnswer a b × (to ≡ other) × (new ≡ now)

-- And so for an undo.
abbrev pub UndosAreOne : Type 0
UndosAreOne =
    (from to other : List FileOf) (old : Held) (new now : Option Held)
    (a b : Result (List ChangeOf) JournalFault)
    → IsSettled a → IsSettled b
    → UndoOutcome from to (Some old) new a → UndoOutcome from other (Some old) now b
    → (a ≡ b) × (to ≡ other) × (new ≡ now)

-- Where a store is torn between the files before an entry and after it, while the entry was being
-- undone, each file of the entry is as before or as after it.
abbrev pub TornUndoIsTorn : Type 0
TornUndoIsTorn =
    (version : Version) (records : List RecordOf) (entry : List ChangeOf)
    (before after : List FileOf) (held : Held)
    → IsEntry entry → IsUndo after entry before
    → IsTornBetween version records entry before after held → IsTorn version records entry held

-- the store has the files that it had, and its journal, which was of the first version, has the
-- same records in the second
abbrev pub IsBackInSecond : Held → Option Held → Type 0
IsBackInSecond old new = (records : List RecordOf) × IsReadyWith First records old
    × (new ≡ Some (with_journal (journal_text Second records) old))

-- A commit that was cut off over a store that was ready, and then recovered: the store is as before
-- the commit, byte for byte, but for a journal of the first version, which may be in the second; or
-- as after it.
abbrev pub CutCommitsComeBack : Type 0
CutCommitsComeBack =
    (e : Asked) (from to : List FileOf) (old cut : Held) (new : Option Held)
    (a : Result Bool JournalFault)
    → AreInPathOrder old.files → HoldsFiles (Some old) from → IsReady old
    → CommitOutcome e from to (Some old) (Some cut) (Err fault.Store)
    → IsSettled a → RecoverOutcome (Some cut) new a
    → (new ≡ Some old) ⊎ (IsBackInSecond old new
    ⊎ ((entry : List ChangeOf) × (made : List FileOf)
    × IsCommitted e entry from made (Some old) new))

-- And so for an undo: the store is as before the undo, or as after it.
abbrev pub CutUndosComeBack : Type 0
CutUndosComeBack =
    (from to : List FileOf) (old cut : Held) (new : Option Held) (a : Result Bool JournalFault)
    → AreInPathOrder old.files → HoldsFiles (Some old) from → IsReady old
    → UndoOutcome from to (Some old) (Some cut) (Err fault.Store)
    → IsSettled a → RecoverOutcome (Some cut) new a
    → (new ≡ Some old)
    ⊎ ((entry : List ChangeOf) × (made : List FileOf) × IsUndone entry from made (Some old) new)
