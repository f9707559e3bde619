-- How the reading of all files of a store ends.
use Rattle.std.specs.Prelude.{◌≡◌, ℕ, ◌+◌, Result, Ok, Err}
use Rattle.proto_store.specs.declared.files.ReadingFault.{ReadingFault}
use Rattle.proto_store.specs.declared.files.ReadingFault.TheVariants.{NoMemory, Store}

-- a failed call of the store is counted and answered as Store, and nothing else is
abbrev pub CountsReading : {T : Type 0} → ℕ → ℕ → Result T ReadingFault → Type 0
CountsReading before after (Err Store) = after ≡ before + 1
CountsReading before after (Err NoMemory) = after ≡ before
CountsReading before after (Ok _) = after ≡ before
