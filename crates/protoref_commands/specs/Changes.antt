-- What edits and undo print, how they end, and the store then and now: the choice of this program.
use Rattle.std.specs.Prelude.{◌≡◌, ◌⊎◌, List, [], Option, Result, Ok, Err}
use Rattle.proto_journal.specs.Workspaces.{Asked}
use Rattle.proto_edit_entries.specs.Entries.{ChangeOf}
use Rattle.proto_base.specs.Texts.{Text}
use Rattle.proto_files.specs.Faults.{FaultAt, IsLeastFault}
use Rattle.proto_files.specs.GivenFiles.{FileOf}
use Rattle.proto_journal.specs.Commits.{CommitOutcome, IsCommitCut}
use Rattle.proto_journal_records.specs.ReadJournals.{IsReady}
use Rattle.proto_journal_records.specs.Known.{Over}
use Rattle.proto_journal.specs.Loads.{IsUnready, LoadOutcome}
use Rattle.proto_journal.specs.Undoing.{IsUndoCut, UndoOutcome}
use Rattle.protoref_output.specs.Answers.{IsAnswer, status_of, printed_text}
use Rattle.protoref_output.specs.FaultLines.{IsLineOver}
use Rattle.protoref_output.specs.declared.answer.Answer.{Answer}
use Rattle.protoref_output.specs.declared.run_fault.RunFault.{RunFault}
use Rattle.protoref_output.specs.declared.status.Status.{Status}
use Rattle.protoref_output.specs.declared.status.Status.TheVariants.{Problem}
use Rattle.proto_journal_records.specs.declared.fault.JournalFault.{JournalFault}
use Rattle.proto_desc.specs.Whole.{WorkspaceFaults}
use Rattle.proto_store.specs.Stores.{Held}
use Rattle.protoref_commands.specs.Told.{Tells}
use Rattle.protoref_commands.specs.declared.beginning.Beginning.{Beginning}
use Rattle.protoref_commands.specs.declared.beginning.Beginning.TheVariants as beginning

-- ---- before a change

-- the journal is none, or its last entry is open
pub record IsNotReady (before : Option Held) (text : Text) (status : Status) : Type 0 where
  pub fault : JournalFault
  pub why : IsUnready before fault
  pub told : Tells [] (Err fault) text status

-- the journal lets a change begin, but the files have a fault, of which this is the line
pub record HasFault (before : Option Held) (text : Text) (status : Status) : Type 0 where
  pub fault : FaultAt
  pub ready : Over before IsReady
  pub least : Over before (λ held. IsLeastFault (WorkspaceFaults held.files) fault)
  pub line : IsLineOver before fault text
  pub ends : status ≡ Problem

-- these are the files of the store, which compile, and its journal lets a change begin
pub record MayBegin (files : List FileOf) (before : Option Held) : Type 0 where
  pub ready : Over before IsReady
  pub loaded : LoadOutcome before (Ok files)

-- ---- a change

-- Nothing is changed for a fault of the journal or the files, which is told; or the change has an
-- outcome over the files, which is told.
pub data PrintsChange
    (Outcome : List FileOf → List FileOf → Option Held → Option Held
    → Result (List ChangeOf) JournalFault → Type 0)
    (before after : Option Held) (text : Text) (status : Status) : Type 0 where
  of_journal : IsNotReady before text status → after ≡ before
      → PrintsChange Outcome before after text status
  of_files : HasFault before text status → after ≡ before
      → PrintsChange Outcome before after text status
  of_change : (files to : List FileOf) (outcome : Result (List ChangeOf) JournalFault)
      → MayBegin files before → Outcome files to before after outcome
      → Tells files outcome text status → PrintsChange Outcome before after text status

-- what an edit prints of a store, how it ends, and what it leaves
abbrev pub PrintsEdit : Asked → Option Held → Option Held → Text → Status → Type 0
PrintsEdit e before after text status = PrintsChange (CommitOutcome e) before after text status

-- the same of an undo
abbrev pub PrintsUndo : Option Held → Option Held → Text → Status → Type 0
PrintsUndo before after text status = PrintsChange UndoOutcome before after text status

-- a store call failed: the store is as before, or as a commit of the edit over its files was cut
abbrev pub IsEditCut : Asked → Option Held → Option Held → Type 0
IsEditCut e before after = (after ≡ before)
    ⊎ ((files : List FileOf) × MayBegin files before × IsCommitCut e files before after)

-- the same of an undo
abbrev pub IsUndoingCut : Option Held → Option Held → Type 0
IsUndoingCut before after = (after ≡ before)
    ⊎ ((files : List FileOf) × MayBegin files before × IsUndoCut files before after)

-- ---- answers

-- the answer of an edit before it is written, and the store then and now
abbrev pub AnswersEdit : Asked → Option Held → Option Held → Result Answer RunFault → Type 0
AnswersEdit e before after result =
    IsAnswer (PrintsEdit e before after) (IsEditCut e before after) before after result

-- the same of an undo
abbrev pub AnswersUndo : Option Held → Option Held → Result Answer RunFault → Type 0
AnswersUndo before after result =
    IsAnswer (PrintsUndo before after) (IsUndoingCut before after) before after result

-- a change may begin over these files; or none may, as the answer tells
abbrev pub Begins : Option Held → Beginning → Type 0
Begins before (beginning.Over files journal) = MayBegin files before
Begins before (beginning.Never answer) =
    IsNotReady before (printed_text answer) (status_of answer)
    ⊎ HasFault before (printed_text answer) (status_of answer)
