-- What is read of a store.
use Rattle.std.specs.Prelude.{◌≡◌, ℕ, ◌+◌, List, codes, Option, Result, Ok, Err}
use Rattle.proto_base.specs.FaultTable.{kind_number, kind_name}
use Rattle.proto_base.specs.Texts.{Path, Text}
use Rattle.proto_base.specs.declared.fault.SchemaFault.{SchemaFault}
use Rattle.proto_base.specs.declared.fault.SchemaFault.TheVariants as schemas
use Rattle.proto_files.specs.Faults.{HasNoFault, IsLeastFault, fault_at}
use Rattle.proto_files.specs.GivenFiles.{FileOf, paths_of}
use Rattle.proto_files.specs.PathFaults.{PathFaults}
use Rattle.proto_desc.specs.Whole.{WorkspaceFaults}
use Rattle.proto_edit.specs.Compiled.{AreCompiled}
use Rattle.proto_journal_records.specs.declared.fault.JournalFault.{JournalFault}
use Rattle.proto_journal_records.specs.declared.fault.JournalFault.TheVariants as journal
use Rattle.proto_store.specs.Stores.{AreInPathOrder, Held, HoldsFiles}
use Rattle.proto_store.specs.declared.files.ReadingFault.{ReadingFault}
use Rattle.proto_store.specs.declared.files.ReadingFault.TheVariants as reading
use Rattle.proto_journal.specs.declared.loading.LoadFault.{LoadFault}
use Rattle.proto_journal.specs.declared.loading.LoadFault.TheVariants as load
use Rattle.proto_journal_records.specs.ReadJournals.{HasOpenEntry, IsReady, IsUnreadable}
use Rattle.proto_journal_records.specs.Known.{Over}

-- a fault of the schemas is the least of the store's files, and nothing is said of other faults
abbrev pub IsLoadFault : Option Held → LoadFault → Type 0
IsLoadFault held (load.Schema f) =
    Over held (λ now. IsLeastFault (WorkspaceFaults now.files) (fault_at f))
IsLoadFault held load.Store = Unit {0}
IsLoadFault held load.NoMemory = Unit {0}

-- a workspace of the store's files, which compile; or their least fault
abbrev pub LoadOutcome : Option Held → Result (List FileOf) LoadFault → Type 0
LoadOutcome held (Ok files) = AreCompiled files × HoldsFiles held files
LoadOutcome held (Err f) = IsLoadFault held f

-- the paths are those of all files, in their order
abbrev pub ArePathsOf : Option Held → List Path → Type 0
ArePathsOf held paths =
    Over held (λ now. AreInPathOrder now.files × (paths ≡ paths_of now.files))

-- the paths have no fault, whatever the files hold
abbrev pub AreSoundPaths : List Path → Type 0
AreSoundPaths paths = HasNoFault (PathFaults 4096 paths)

-- what is told where not all files are read
abbrev pub load_fault : ReadingFault → LoadFault
load_fault reading.Store = load.Store
load_fault reading.NoMemory = load.NoMemory

-- what is told where the schemas have a fault
abbrev pub schemas_fault : SchemaFault → LoadFault
schemas_fault (schemas.Schema f) = load.Schema f
schemas_fault schemas.NoMemory = load.NoMemory

-- why edits and undo may not begin: the journal is none, or its last entry is open
abbrev pub IsUnready : Option Held → JournalFault → Type 0
IsUnready held journal.BadJournal = Over held IsUnreadable
IsUnready held journal.OpenEntry = Over held HasOpenEntry
IsUnready held journal.Store = Unit {0}
IsUnready held journal.NoMemory = Unit {0}
IsUnready held journal.NothingToUndo = ⊥
IsUnready held journal.JournalFull = ⊥
IsUnready held (journal.Refused r) = ⊥

-- whether they may
abbrev pub ReadyOutcome : {T : Type 0} → Option Held → Result T JournalFault → Type 0
ReadyOutcome held (Ok value) = Over held IsReady
ReadyOutcome held (Err f) = IsUnready held f

-- a failed call of the store is counted and answered as Store, and nothing else is
abbrev pub CountsLoad : {T : Type 0} → ℕ → ℕ → Result T LoadFault → Type 0
CountsLoad before after (Err load.Store) = after ≡ before + 1
CountsLoad before after (Err load.NoMemory) = after ≡ before
CountsLoad before after (Err (load.Schema f)) = after ≡ before
CountsLoad before after (Ok value) = after ≡ before

-- the number of a schemas' fault in the table of faults, and 0 of what is no fault of theirs
abbrev pub load_fault_number : LoadFault → ℕ
load_fault_number (load.Schema f) = kind_number f.kind
load_fault_number load.Store = 0
load_fault_number load.NoMemory = 0

-- the name of a schemas' fault in the table of faults, and of what else may go wrong in loading
abbrev pub load_fault_name : LoadFault → Text
load_fault_name (load.Schema f) = kind_name f.kind
load_fault_name load.Store = codes "Store"
load_fault_name load.NoMemory = codes "NoMemory"
