-- What is known of a store. A store may not say what it holds; then nothing is claimed of it.
use Rattle.std.specs.Prelude.{◌≡◌, ℕ, ◌+◌, Option, Some, None, Result, Ok, Err}
use Rattle.proto_journal_records.specs.declared.fault.JournalFault.{JournalFault}
use Rattle.proto_journal_records.specs.declared.fault.JournalFault.TheVariants as fault
use Rattle.proto_store.specs.Stores.{Held}
pub use Rattle.proto_store.specs.Stores.{Over}

-- it holds of what the store held and of what it holds now
abbrev pub OverBoth : Option Held → Option Held → (Held → Held → Type 0) → Type 0
OverBoth None None P = Unit {0}
OverBoth None (Some now) P = ⊥
OverBoth (Some then) None P = ⊥
OverBoth (Some then) (Some now) P = P then now

-- a failed call of the store is counted and answered as Store, and nothing else is
abbrev pub CountsFault : ℕ → ℕ → JournalFault → Type 0
CountsFault before after fault.Store = after ≡ before + 1
CountsFault before after _ = after ≡ before

-- the same of the answer of a call: where it is well, no call of the store failed
abbrev pub CountsJournal : {T : Type 0} → ℕ → ℕ → Result T JournalFault → Type 0
CountsJournal before after (Ok value) = after ≡ before
CountsJournal before after (Err f) = CountsFault before after f

-- no call of the store failed, and memory was there
abbrev pub IsSettled : {T : Type 0} → Result T JournalFault → Type 0
IsSettled (Err fault.Store) = ⊥
IsSettled (Err fault.NoMemory) = ⊥
IsSettled _ = Unit {0}

-- a call of the store failed, or memory ran out
abbrev pub IsStoreOrMemory : JournalFault → Type 0
IsStoreOrMemory fault.Store = Unit {0}
IsStoreOrMemory fault.NoMemory = Unit {0}
IsStoreOrMemory fault.BadJournal = ⊥
IsStoreOrMemory fault.NothingToUndo = ⊥
IsStoreOrMemory fault.OpenEntry = ⊥
IsStoreOrMemory fault.JournalFull = ⊥
IsStoreOrMemory (fault.Refused r) = ⊥
