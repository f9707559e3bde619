-- What is told of the outcome of a change: the choice of this program.
use Rattle.std.specs.Prelude.{◌≡◌, ℕ, List, Option, Result, Ok, Err}
use Rattle.proto_base.specs.Texts.{Text}
use Rattle.proto_edit_entries.specs.Entries.{ChangeOf}
use Rattle.proto_edit_entries.specs.declared.refusal.Refusal.{Refusal}
use Rattle.proto_files.specs.GivenFiles.{FileOf}
use Rattle.proto_journal_records.specs.Known as known
use Rattle.protoref_output.specs.Answers.{status_of, printed_text}
use Rattle.protoref_output.specs.EditLines.{changed_lines, faulty_line, refused_line}
use Rattle.protoref_output.specs.Ends.{CountsStore}
use Rattle.protoref_output.specs.declared.answer.Answer.{Answer}
use Rattle.protoref_output.specs.declared.run_fault.RunFault.{RunFault}
use Rattle.protoref_output.specs.declared.run_fault.RunFault.TheVariants as ends
use Rattle.protoref_output.specs.declared.status.Status.{Status}
use Rattle.protoref_output.specs.declared.status.Status.TheVariants.{Done, Problem}
use Rattle.proto_journal_records.specs.declared.fault.JournalFault.{JournalFault}
use Rattle.proto_journal_records.specs.declared.fault.JournalFault.TheVariants as fault
use Rattle.proto_store.specs.Stores.{Held}

-- A fault is told by its line, a refusal by this one.
-- Neither a failed store call nor out of memory has a line.
abbrev pub TellsJournalFault : (Refusal → Text) → JournalFault → Text → Status → Type 0
TellsJournalFault line_of (fault.Refused r) text status = (text ≡ line_of r) × (status ≡ Problem)
TellsJournalFault line_of fault.Store text status = ⊥
TellsJournalFault line_of fault.NoMemory text status = ⊥
TellsJournalFault line_of f text status = (text ≡ faulty_line f) × (status ≡ Problem)

-- an entry is told by its files, and a fault by its line
abbrev pub Tells : List FileOf → Result (List ChangeOf) JournalFault → Text → Status → Type 0
Tells files (Ok entry) text status = (text ≡ changed_lines entry) × (status ≡ Done)
Tells files (Err f) text status = TellsJournalFault (refused_line files) f text status

-- the answer tells of the fault, or ends with what the fault is; or memory runs out for its line
abbrev pub IsFaultTold : (Refusal → Text) → JournalFault → Result Answer RunFault → Type 0
IsFaultTold line_of f (Ok answer) =
    TellsJournalFault line_of f (printed_text answer) (status_of answer)
IsFaultTold line_of fault.Store (Err e) = e ≡ ends.Store
IsFaultTold line_of f (Err e) = e ≡ ends.NoMemory

-- the answer tells of the outcome, and of an entry without fail
abbrev pub TellsOutcome :
    List FileOf → Result (List ChangeOf) JournalFault → Result Answer RunFault → Type 0
TellsOutcome files (Ok entry) (Ok answer) =
    Tells files (Ok entry) (printed_text answer) (status_of answer)
TellsOutcome files (Ok entry) (Err e) = ⊥
TellsOutcome files (Err f) result = IsFaultTold (refused_line files) f result

-- a store call whose failure is counted in the outcome is counted in the answer
abbrev pub CountsAlike : Result (List ChangeOf) JournalFault → Result Answer RunFault → Type 0
CountsAlike outcome result = (before after : ℕ)
    → known.CountsJournal before after outcome → CountsStore before after result

-- the fault is the journal's or the store's, or out of memory, and no refusal
abbrev pub IsNoRefusal : JournalFault → Type 0
IsNoRefusal (fault.Refused r) = ⊥
IsNoRefusal _ = Unit {0}

-- a change over the files has an outcome, of which the answer tells
abbrev pub TellsOf :
    (List FileOf → List FileOf → Option Held → Option Held
    → Result (List ChangeOf) JournalFault → Type 0)
    → List FileOf → Option Held → Option Held → Result Answer RunFault → Type 0
TellsOf Outcome files before after result =
    (to : List FileOf) × (outcome : Result (List ChangeOf) JournalFault)
    × Outcome files to before after outcome × TellsOutcome files outcome result
