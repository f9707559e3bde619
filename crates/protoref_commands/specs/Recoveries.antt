-- What recovery prints, how it ends, and the store then and now: the choice of this program.
use Rattle.std.specs.Prelude.{◌≡◌, Bool, Option, Result, Ok, Err}
use Rattle.proto_base.specs.Texts.{Text}
use Rattle.protoref_output.specs.Answers.{IsAnswer}
use Rattle.protoref_output.specs.RecoveryLines.{plain_refused_line, recovery_line}
use Rattle.protoref_output.specs.declared.answer.Answer.{Answer}
use Rattle.protoref_output.specs.declared.run_fault.RunFault.{RunFault}
use Rattle.protoref_output.specs.declared.status.Status.{Status}
use Rattle.protoref_output.specs.declared.status.Status.TheVariants.{Done}
use Rattle.proto_journal_records.specs.declared.fault.JournalFault.{JournalFault}
use Rattle.proto_journal_records.specs.Recovery.{IsRecoveryCut, RecoverOutcome}
use Rattle.proto_store.specs.Stores.{Held}
use Rattle.protoref_commands.specs.Told.{TellsJournalFault}

-- It is told whether a store was recovered, and a fault by its line. A refusal has no place: no
-- files are read as schemas.
abbrev pub TellsRecovery : Result Bool JournalFault → Text → Status → Type 0
TellsRecovery (Ok recovered) text status = (text ≡ recovery_line recovered) × (status ≡ Done)
TellsRecovery (Err f) text status = TellsJournalFault plain_refused_line f text status

-- recovery has an outcome, which is told
abbrev pub PrintsRecovery : Option Held → Option Held → Text → Status → Type 0
PrintsRecovery before after text status = (outcome : Result Bool JournalFault)
    × RecoverOutcome before after outcome × TellsRecovery outcome text status

-- where a store call failed, the store is as before, torn as it was, or recovered
abbrev pub AnswersRecovery : Option Held → Option Held → Result Answer RunFault → Type 0
AnswersRecovery before after result =
    IsAnswer (PrintsRecovery before after) (IsRecoveryCut before after) before after result
