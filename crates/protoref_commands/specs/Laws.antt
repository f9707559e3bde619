-- The law of runs.
use Rattle.std.specs.Prelude.{◌≡◌, Option, Some, Ok}
use Rattle.std.specs.Io.KnownBytes.{Appends}
use Rattle.proto_base.specs.Texts.{Text}
use Rattle.proto_edit_entries.specs.EditsAsked.{asked}
use Rattle.proto_store.specs.Stores.{AreInPathOrder, Held}
use Rattle.protoref_output.specs.declared.status.Status.{Status}
use Rattle.protoref_commands.specs.Commands.{Ran}
use Rattle.protoref_commands.specs.declared.command.Command.{Command}
use Rattle.protoref_commands.specs.declared.command.Command.TheVariants.{Edit, Lint}

-- two commands ask the same: of lint the same rules, of an edit the same names and paths as bytes
abbrev pub AskTheSame : Command → Command → Type 0
AskTheSame (Lint rules) (Lint others) = rules.chosen ≡ others.chosen
AskTheSame (Edit edit) (Edit other) = asked edit ≡ asked other
AskTheSame command same = command ≡ same

-- one text was written, either time behind what the writer had
abbrev pub WriteTheSame : (old new then now : Option Text) → Type 0
WriteTheSame old new then now =
    (text : Text) × Appends old new text × Appends then now text

-- A run has one answer. Two runs that end well, of commands that ask the same, over one store whose
-- journal and files are known, these in the order of their paths, write one text, end with one
-- status, and leave one store.
abbrev pub RunsAreOne : Type 0
RunsAreOne =
    (command same : Command) (before : Held) (after other : Option Held)
    (old new then now : Option Text) (status end : Status)
    → AskTheSame command same → AreInPathOrder before.files
    → Ran command (Some before) after old new (Ok status)
    → Ran same (Some before) other then now (Ok end)
    → WriteTheSame old new then now × (status ≡ end) × (after ≡ other)
