-- What is told of the move of a journal, and what the command then answers.
-- As `Recovered` goes through the faults of a recovery: which of them come, and what each leaves, differs (`MigrateOutcome`,
-- `RecoverOutcome`), so each has its own cases.
use Rattle.std.proofs.Common.{◌≡◌, Option, Result, Ok, Err}
use Rattle.protoref_output.specs.RecoveryLines.{plain_refused_line}
use Rattle.protoref_output.specs.declared.answer.Answer.{Answer}
use Rattle.protoref_output.specs.declared.run_fault.RunFault.{RunFault}
use Rattle.protoref_output.specs.declared.run_fault.RunFault.TheVariants as ends
use Rattle.proto_journal_records.specs.declared.fault.JournalFault.{JournalFault}
use Rattle.proto_journal_records.specs.declared.fault.JournalFault.TheVariants as fault
use Rattle.proto_journal_records.specs.Migration.{MigrateOutcome}
use Rattle.proto_store.specs.Stores.{Held}
use Rattle.protoref_commands.specs.Common.{AnswersMigration, IsMigrationCut, IsFaultTold}

move_cut : (before after : Option Held) (f : JournalFault) → MigrateOutcome before after (Err f) → IsFaultTold plain_refused_line f (Err ends.Store) → IsMigrationCut before after
move_cut before after fault.Store h told = h
move_cut before after f h told = let no : ⊥ = cc in absurd no

move_stays : (before after : Option Held) (f : JournalFault) → MigrateOutcome before after (Err f) → IsFaultTold plain_refused_line f (Err ends.NoMemory) → after ≡ before
move_stays before after fault.BadJournal h told = h.0
move_stays before after fault.NothingToUndo h told = absurd h
move_stays before after fault.OpenEntry h told = h.0
move_stays before after fault.Store h told = let no : ⊥ = cc in absurd no
move_stays before after fault.JournalFull h told = h.0
move_stays before after fault.NoMemory h told = h
move_stays before after (fault.Refused x) h told = absurd h

move_unwritten : (f : JournalFault) → IsFaultTold plain_refused_line f (Err ends.Output) → ⊥
move_unwritten fault.Store told = cc
move_unwritten f told = cc

-- a journal that is not moved
pub unmoved_answers : (before after : Option Held) (f : JournalFault) (r : Result Answer RunFault) → MigrateOutcome before after (Err f)
    → IsFaultTold plain_refused_line f r → AnswersMigration before after r
unmoved_answers before after f (Ok a) h told = (Err f, h, told)
unmoved_answers before after f (Err ends.Store) h told = move_cut before after f h told
unmoved_answers before after f (Err ends.NoMemory) h told = move_stays before after f h told
unmoved_answers before after f (Err ends.Output) h told = move_unwritten f told
