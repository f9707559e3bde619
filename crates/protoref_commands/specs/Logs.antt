-- What the log prints, and how it ends: the choice of this program.
use Rattle.std.specs.Prelude.{◌≡◌, List, Option, Result, Ok, Err}
use Rattle.proto_base.specs.Texts.{Text}
use Rattle.proto_journal_records.specs.Known.{Over}
use Rattle.protoref_output.specs.Answers.{IsAnswer, status_of, printed_text}
use Rattle.protoref_output.specs.EditLines.{faulty_line}
use Rattle.protoref_output.specs.LogLines.{log_lines}
use Rattle.protoref_output.specs.declared.answer.Answer.{Answer}
use Rattle.protoref_output.specs.declared.run_fault.RunFault.{RunFault}
use Rattle.protoref_output.specs.declared.run_fault.RunFault.TheVariants as ends
use Rattle.protoref_output.specs.declared.status.Status.{Status}
use Rattle.protoref_output.specs.declared.status.Status.TheVariants.{Done, Problem}
use Rattle.proto_journal_records.specs.Journals.{IsJournal}
use Rattle.proto_journal_records.specs.declared.fault.JournalFault.TheVariants as fault
use Rattle.proto_journal_records.specs.Records.{RecordOf}
use Rattle.proto_store.specs.Stores.{Held}

-- of a journal the lines of its records, and of what is none that it is bad
abbrev pub PrintsLog : Text → Text → Status → Type 0
PrintsLog journal text Done =
    (records : List RecordOf) × IsJournal journal records × (text ≡ log_lines records)
PrintsLog journal text Problem =
    ((records : List RecordOf) → IsJournal journal records → ⊥)
    × (text ≡ faulty_line fault.BadJournal)

-- the answer over the bytes of a journal; only memory may be wanting
abbrev pub TellsLog : Text → Result Answer RunFault → Type 0
TellsLog journal (Ok answer) = PrintsLog journal (printed_text answer) (status_of answer)
TellsLog journal (Err e) = e ≡ ends.NoMemory

-- the log of a store, which stays as it is
abbrev pub PrintsLogOf : Option Held → Option Held → Text → Status → Type 0
PrintsLogOf before after text status =
    (after ≡ before) × Over before (λ held. PrintsLog held.journal text status)

-- the answer of the log before it is written, and the store then and now
abbrev pub AnswersLog : Option Held → Option Held → Result Answer RunFault → Type 0
AnswersLog before after result =
    IsAnswer (PrintsLogOf before after) (after ≡ before) before after result
