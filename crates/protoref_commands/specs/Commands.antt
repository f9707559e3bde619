-- What a command prints, how it ends, and the store then and now: the choice of this program.
use Rattle.std.specs.Prelude.{◌≡◌, Option, Result, Ok, Err}
use Rattle.std.specs.Io.KnownBytes.{Appends, Keeps}
use Rattle.proto_base.specs.Texts.{Text}
use Rattle.proto_journal.specs.Answers.{asked}
use Rattle.proto_journal_records.specs.Known.{Over}
use Rattle.protoref_output.specs.Answers.{IsAnswer}
use Rattle.protoref_output.specs.Writing.{AppendsBeginning}
use Rattle.protoref_output.specs.declared.answer.Answer.{Answer}
use Rattle.protoref_output.specs.declared.run_fault.RunFault.{RunFault}
use Rattle.protoref_output.specs.declared.run_fault.RunFault.TheVariants.{Store, NoMemory, Output}
use Rattle.protoref_output.specs.declared.status.Status.{Status}
use Rattle.proto_journal_records.specs.Recovery.{IsRecoveryCut}
use Rattle.proto_store.specs.Stores.{Held}
use Rattle.protoref_commands.specs.Changes.{IsEditCut, IsUndoingCut, PrintsEdit, PrintsUndo}
use Rattle.protoref_commands.specs.Logs.{PrintsLogOf}
use Rattle.protoref_commands.specs.Migrations.{IsMigrationCut, PrintsMigration}
use Rattle.protoref_commands.specs.Recoveries.{PrintsRecovery}
use Rattle.protoref_commands.specs.Linted.{PrintsLinted}
use Rattle.protoref_commands.specs.Printed.{PrintsCompiled}
use Rattle.protoref_commands.specs.declared.command.Command.{Command}
use Rattle.protoref_commands.specs.declared.command.Command.TheVariants.{Compile, Lint, Edit, Undo, Log, Recover, Migrate}

-- the text that a command prints over a store, the
-- status that it ends with, and the store then and now
abbrev pub Answered : Command → Option Held → Option Held → Text → Status → Type 0
Answered Compile before after text status =
    (after ≡ before) × Over before (λ held. PrintsCompiled held.files text status)
Answered (Lint rules) before after text status =
    (after ≡ before) × Over before (λ held. PrintsLinted held.files rules.chosen text status)
Answered (Edit edit) before after text status = PrintsEdit (asked edit) before after text status
Answered Undo before after text status = PrintsUndo before after text status
Answered Log before after text status = PrintsLogOf before after text status
Answered Recover before after text status = PrintsRecovery before after text status
Answered Migrate before after text status = PrintsMigration before after text status

-- where a store call failed: the store is as before, or as an edit,
-- an undo, a recovery or a move of the journal that was cut leaves it
abbrev pub IsCutCommand : Command → Option Held → Option Held → Type 0
IsCutCommand (Edit edit) before after = IsEditCut (asked edit) before after
IsCutCommand Undo before after = IsUndoingCut before after
IsCutCommand Recover before after = IsRecoveryCut before after
IsCutCommand Migrate before after = IsMigrationCut before after
IsCutCommand _ before after = after ≡ before

-- the answer of a command before it is written, and the store then and now
abbrev pub Answers : Command → Option Held → Option Held → Result Answer RunFault → Type 0
Answers command before after result =
    IsAnswer (Answered command before after) (IsCutCommand command before after) before after result

-- The store then and now, and what was written: the whole text where the command ends, a beginning
-- of it where the output failed, and else nothing.
abbrev pub Ran : Command → Option Held → Option Held → Option Text → Option Text
    → Result Status RunFault → Type 0
Ran command before after old new (Ok status) =
    (text : Text) × Answered command before after text status × Appends old new text
Ran command before after old new (Err Output) =
    (text : Text) × (status : Status) × Answered command before after text status
    × AppendsBeginning old new text
Ran command before after old new (Err Store) = IsCutCommand command before after × Keeps old new
Ran command before after old new (Err NoMemory) = (after ≡ before) × Keeps old new
