-- What is told of a recovery, and what the command then answers.
use Rattle.std.proofs.Common.{◌≡◌, Option, Result, Ok, Err}
use Rattle.proto_edit_entries.specs.declared.refusal.Refusal.TheVariants as refusal
use Rattle.protoref_output.specs.RecoveryLines.{plain_refused_line}
use Rattle.protoref_output.specs.declared.answer.Answer.{Answer}
use Rattle.protoref_output.specs.declared.run_fault.RunFault.{RunFault}
use Rattle.protoref_output.specs.declared.run_fault.RunFault.TheVariants as ends
use Rattle.proto_journal_records.specs.declared.fault.JournalFault.{JournalFault}
use Rattle.proto_journal_records.specs.declared.fault.JournalFault.TheVariants as fault
use Rattle.proto_journal_records.specs.Recovery.{IsRecoveryCut, RecoverOutcome}
use Rattle.proto_store.specs.Stores.{Held}
use Rattle.protoref_commands.specs.Recoveries.{AnswersRecovery}
use Rattle.protoref_commands.specs.Told.{IsFaultTold}

recovery_cut : (before after : Option Held) (f : JournalFault) → RecoverOutcome before after (Err f) → IsFaultTold plain_refused_line f (Err ends.Store) → IsRecoveryCut before after
recovery_cut before after fault.Store h told = h
recovery_cut before after f h told = let no : ⊥ = cc in absurd no

recovery_stays : (before after : Option Held) (f : JournalFault) → RecoverOutcome before after (Err f) → IsFaultTold plain_refused_line f (Err ends.NoMemory) → after ≡ before
recovery_stays before after fault.BadJournal h told = h.0
recovery_stays before after fault.NothingToUndo h told = absurd h
recovery_stays before after fault.OpenEntry h told = absurd h
recovery_stays before after fault.Store h told = let no : ⊥ = cc in absurd no
recovery_stays before after fault.JournalFull h told = absurd h
recovery_stays before after fault.NoMemory h told = h
recovery_stays before after (fault.Refused refusal.Stale) h told = h.0
recovery_stays before after (fault.Refused x) h told = absurd h

recovery_unwritten : (f : JournalFault) → IsFaultTold plain_refused_line f (Err ends.Output) → ⊥
recovery_unwritten fault.Store told = cc
recovery_unwritten f told = cc

-- a store that is not recovered
pub unrecovered_answers : (before after : Option Held) (f : JournalFault) (r : Result Answer RunFault) → RecoverOutcome before after (Err f)
    → IsFaultTold plain_refused_line f r → AnswersRecovery before after r
unrecovered_answers before after f (Ok a) h told = (Err f, h, told)
unrecovered_answers before after f (Err ends.Store) h told = recovery_cut before after f h told
unrecovered_answers before after f (Err ends.NoMemory) h told = recovery_stays before after f h told
unrecovered_answers before after f (Err ends.Output) h told = recovery_unwritten f told
