-- The imports of files as they are written and as they are resolved.
use Rattle.std.specs.Prelude.{ℕ, suc, ◌<◌, List, [], ◌∷◌, ◌++◌, map, string_bytes}
use Rattle.std.specs.List.{AllPairs}
use Rattle.proto_base.specs.declared.or_no_memory.OrNoMemory.{OrNoMemory}
use Rattle.proto_base.specs.declared.or_no_memory.OrNoMemory.TheVariants as or
use Rattle.proto_names_rules.specs.Names.{Import}
use Rattle.proto_names_rules.specs.Faults.{Fault, fault, IsLeast, AskedImport}
use Rattle.proto_names_rules.specs.Grown.{at}
use Rattle.proto_names_imports.specs.declared.import.WrittenImport.{WrittenImport}
use Rattle.proto_names_imports.specs.declared.import.FileImport.{FileImport}
use Rattle.proto_names_imports.specs.declared.import.BadImport.{BadImport}
use Rattle.proto_names_imports.specs.declared.import.ImportFlaw.{ImportFlaw}
use Rattle.proto_names_imports.specs.declared.import.ImportFlaw.TheVariants.{Unknown, Double, Cycle}

-- an import as it is written in a file
abbrev pub asked_by : ℕ → WrittenImport → AskedImport
asked_by file w = record {
  place = at file w.token;
  path = string_bytes w.path;
  is_public = w.is_public;
}

-- the imports of all files from this number on, file after file
abbrev pub all_asked : ℕ → List (List WrittenImport) → List AskedImport
all_asked file [] = []
all_asked file (ws ∷ rest) = map (asked_by file) ws ++ all_asked (suc file) rest

-- an import of a file as it is resolved: from this file to that one, public or not
abbrev pub import_from : ℕ → FileImport → Import
import_from file i = record { from = file; to = i.to; is_public = i.is_public }

-- the resolved imports of all files from this number on, file after file
abbrev pub all_imports : ℕ → List (List FileImport) → List Import
all_imports file [] = []
all_imports file (is ∷ rest) = map (import_from file) is ++ all_imports (suc file) rest

-- the tokens of a file's imports are in order
abbrev pub TokensAreRising : List WrittenImport → Type 0
TokensAreRising ws = AllPairs (λ a b. a.token < b.token) ws

-- the number of the fault that an import has
abbrev pub import_flaw_number : ImportFlaw → ℕ
import_flaw_number Unknown = 10
import_flaw_number Double = 11
import_flaw_number Cycle = 12

-- a faulty import as a fault: at the token of its path, with its number
abbrev pub fault_of : BadImport → Fault
fault_of b = fault (at b.file b.token) (import_flaw_number b.flaw)

-- the error is the least fault, or out of memory
abbrev pub IsImportError : (Fault → Type 0) → OrNoMemory BadImport → Type 0
IsImportError Says (or.Fault b) = IsLeast Says (fault_of b)
IsImportError Says or.NoMemory = Unit {0}
