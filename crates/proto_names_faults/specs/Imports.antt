-- What is wrong with imports, by what their paths name and where the files lead.
use Rattle.std.specs.Prelude.{◌≡◌, ◌↔◌, ◌⊎◌, ℕ, ◌<◌, Bool, true, List, [], get_or, take, map, Some, None, string_bytes}
use Rattle.std.specs.List.{Contains}
use Rattle.proto_base.specs.Texts.{Path}
use Rattle.proto_names_rules.specs.Cycles.{Leads}
use Rattle.proto_names_rules.specs.Faults.{Fault, fault, file_with_path}
use Rattle.proto_names_rules.specs.Grown.{at}
use Rattle.proto_names_rules.specs.Names.{Import}
use Rattle.proto_names_imports.specs.ImportSteps.{PathFault}
use Rattle.proto_names_imports.specs.Importing.{all_asked, asked_by}
use Rattle.proto_names_imports.specs.Walks.{IsMarked}
use Rattle.proto_names_imports.specs.declared.import.WrittenImport.{WrittenImport}

-- for each file the marks of the files that it leads to, as far as an import leads back: the file
-- that an import names leads to the importing file exactly if that is marked
abbrev pub MarksCycles : List Import → List (List Bool) → Type 0
MarksCycles imports marks =
    (i : Import) → Contains imports i
    → IsMarked (get_or marks i.to []) i.from ↔ Leads imports i.to i.from

-- ---- one import

-- no file has its path
abbrev pub IsUnknown : List Path → ℕ → WrittenImport → Fault → Type 0
IsUnknown paths file w f =
    (file_with_path paths (string_bytes w.path) ≡ None) × (f ≡ fault (at file w.token) 10)

-- it is given again
abbrev pub IsDouble : ℕ → WrittenImport → Bool → Fault → Type 0
IsDouble file w is_double f = (is_double ≡ true) × (f ≡ fault (at file w.token) 11)

-- it names a file that leads to its own by the marks
abbrev pub IsCycle : List Path → List (List Bool) → ℕ → WrittenImport → Fault → Type 0
IsCycle paths marks file w f =
    (to : ℕ) × (file_with_path paths (string_bytes w.path) ≡ Some to)
    × IsMarked (get_or marks to []) file × (f ≡ fault (at file w.token) 12)

-- one of these three
abbrev pub IsFlawOf : List Path → List (List Bool) → ℕ → WrittenImport → Bool → Fault → Type 0
IsFlawOf paths marks file w is_double f =
    IsUnknown paths file w f ⊎ (IsDouble file w is_double f ⊎ IsCycle paths marks file w f)

-- ---- the imports of files

-- an import of this file names a file that leads to it by the marks
abbrev pub IsCycleIn : List Path → List (List Bool) → ℕ → List WrittenImport → Fault → Type 0
IsCycleIn paths marks file ws f =
    (w : WrittenImport) × Contains ws w × IsCycle paths marks file w f

-- an import of one of the first files does
abbrev pub IsCycleBefore : List Path → List (List Bool) → List (List WrittenImport) → ℕ → Fault
    → Type 0
IsCycleBefore paths marks files count f =
    (file : ℕ) × (file < count) × IsCycleIn paths marks file (get_or files file []) f

-- an import of this file is faulty
abbrev pub IsImportIn : List Path → List (List Bool) → ℕ → List WrittenImport → Fault → Type 0
IsImportIn paths marks file ws f =
    PathFault paths (map (asked_by file) ws) f ⊎ IsCycleIn paths marks file ws f

-- an import of one of the first files is
abbrev pub IsImportBefore : List Path → List (List Bool) → List (List WrittenImport) → ℕ → Fault
    → Type 0
IsImportBefore paths marks files count f =
    PathFault paths (all_asked 0 (take count files)) f ⊎ IsCycleBefore paths marks files count f
