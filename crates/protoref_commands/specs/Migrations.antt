-- What the move of a journal to the second version prints, how it ends, and the store then and now:
-- the choice of this program.
use Rattle.std.specs.Prelude.{◌≡◌, ◌⊎◌, Bool, Option, Result, Ok, Err}
use Rattle.proto_base.specs.Texts.{Text}
use Rattle.protoref_output.specs.Answers.{IsAnswer}
use Rattle.protoref_output.specs.RecoveryLines.{migration_line, plain_refused_line}
use Rattle.protoref_output.specs.declared.answer.Answer.{Answer}
use Rattle.protoref_output.specs.declared.run_fault.RunFault.{RunFault}
use Rattle.protoref_output.specs.declared.status.Status.{Status}
use Rattle.protoref_output.specs.declared.status.Status.TheVariants.{Done}
use Rattle.proto_journal_records.specs.declared.fault.JournalFault.{JournalFault}
use Rattle.proto_journal_records.specs.Known.{OverBoth}
use Rattle.proto_journal_records.specs.Migration.{IsMigrated, MigrateOutcome}
use Rattle.proto_store.specs.Stores.{Held}
use Rattle.protoref_commands.specs.Told.{TellsJournalFault}

-- it is told whether a journal was moved, and a fault by its line; no move is refused
abbrev pub TellsMigration : Result Bool JournalFault → Text → Status → Type 0
TellsMigration (Ok migrated) text status = (text ≡ migration_line migrated) × (status ≡ Done)
TellsMigration (Err f) text status = TellsJournalFault plain_refused_line f text status

-- the move has an outcome, which is told
abbrev pub PrintsMigration : Option Held → Option Held → Text → Status → Type 0
PrintsMigration before after text status = (outcome : Result Bool JournalFault)
    × MigrateOutcome before after outcome × TellsMigration outcome text status

-- a store call failed: the store is as before, or its journal is of the second version
abbrev pub IsMigrationCut : Option Held → Option Held → Type 0
IsMigrationCut before after = (after ≡ before) ⊎ OverBoth before after IsMigrated

-- the answer of the move before it is written, and the store then and now
abbrev pub AnswersMigration : Option Held → Option Held → Result Answer RunFault → Type 0
AnswersMigration before after result =
    IsAnswer (PrintsMigration before after) (IsMigrationCut before after) before after result
