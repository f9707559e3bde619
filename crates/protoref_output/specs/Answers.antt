-- The answer of a command: what it prints, and how it ends.
use Rattle.std.specs.Prelude.{◌≡◌, ℕ, List, Option, Result, Ok, Err}
use Rattle.std.specs.String.{string_bytes}
use Rattle.protoref_output.specs.EditLines.{changed_lines}
use Rattle.protoref_output.specs.RecoveryLines.{migration_line, recovery_line}
use Rattle.protoref_output.specs.declared.answer.Answer.{Answer}
use Rattle.protoref_output.specs.declared.answer.Answer.TheVariants.{Text, Changed, Recovery, Migration}
use Rattle.protoref_output.specs.declared.run_fault.RunFault.{RunFault}
use Rattle.protoref_output.specs.declared.run_fault.RunFault.TheVariants.{Store, NoMemory, Output}
use Rattle.protoref_output.specs.declared.status.Status.{Status}
use Rattle.protoref_output.specs.declared.status.Status.TheVariants.{Done}
use Rattle.proto_store.specs.Stores.{Held}

-- the text that an answer prints
abbrev pub printed_text : Answer → List ℕ
printed_text (Text text status) = string_bytes text
printed_text (Changed entry) = changed_lines entry
printed_text (Recovery recovered) = recovery_line recovered
printed_text (Migration migrated) = migration_line migrated

-- how the command of an answer ends; changes, recoveries and migrations end well
abbrev pub status_of : Answer → Status
status_of (Text text status) = status
status_of (Changed entry) = Done
status_of (Recovery recovered) = Done
status_of (Migration migrated) = Done

-- What a command answers before it writes: the text and the status that it prints; or that a store
-- call failed, which may have cut it; or out of memory, which leaves the store.
abbrev pub IsAnswer : (List ℕ → Status → Type 0) → Type 0
    → Option Held → Option Held → Result Answer RunFault → Type 0
IsAnswer Prints Cut before after (Ok answer) = Prints (printed_text answer) (status_of answer)
IsAnswer Prints Cut before after (Err Store) = Cut
IsAnswer Prints Cut before after (Err NoMemory) = after ≡ before
IsAnswer Prints Cut before after (Err Output) = ⊥
