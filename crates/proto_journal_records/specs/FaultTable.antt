-- The numbers and names of the faults of a journal: the table of this product.
use Rattle.std.specs.Prelude.{ℕ, Bool, ◌==◌, if◌then◌else◌, codes}
use Rattle.proto_base.specs.Texts.{Text}
use Rattle.proto_edit_entries.specs.declared.refusal.Refusal.{Refusal}
use Rattle.proto_edit_entries.specs.RefusalTable as refusals
use Rattle.proto_journal_records.specs.declared.fault.JournalFault.{JournalFault}
use Rattle.proto_journal_records.specs.declared.fault.JournalFault.TheVariants.{BadJournal, NothingToUndo, OpenEntry, Store, JournalFull, NoMemory, Refused}

-- the number of a journal's fault; a refusal has its own number, and has 0 here
abbrev pub journal_fault_number : JournalFault → ℕ
journal_fault_number BadJournal = 1
journal_fault_number NothingToUndo = 2
journal_fault_number OpenEntry = 3
journal_fault_number Store = 4
journal_fault_number JournalFull = 5
journal_fault_number NoMemory = 6
journal_fault_number (Refused refusal) = 0

-- the name of a journal's fault; a refusal has its own name, beside this one
abbrev pub journal_fault_name : JournalFault → Text
journal_fault_name BadJournal = codes "BadJournal"
journal_fault_name NothingToUndo = codes "NothingToUndo"
journal_fault_name OpenEntry = codes "OpenEntry"
journal_fault_name Store = codes "Store"
journal_fault_name JournalFull = codes "JournalFull"
journal_fault_name NoMemory = codes "NoMemory"
journal_fault_name (Refused refusal) = codes "Refused"

-- refusal 18 is out of memory
abbrev pub is_no_memory : Refusal → Bool
is_no_memory refusal = refusals.refusal_number refusal == 18

-- what a journal's call answers for a refusal: out of memory is its own fault, and never a refusal
abbrev pub fault_of_refusal : Refusal → JournalFault
fault_of_refusal refusal = if is_no_memory refusal then NoMemory else Refused refusal
