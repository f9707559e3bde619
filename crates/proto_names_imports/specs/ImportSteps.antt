-- What the steps of the resolution of imports answer: the first fault of each kind, and walks back
-- along imports.
use Rattle.std.specs.Prelude.{◌≡◌, ◌↔◌, ℕ, Bool, List, [], Option, Some, None, String, string_bytes, get_or}
use Rattle.std.specs.List.{Contains}
use Rattle.std.specs.declared.alloc.Global.{Global}
use Rattle.indexmap.specs.IndexMap.{IndexMap, get_by_text}
use Rattle.proto_base.specs.Texts.{Path}
use Rattle.proto_names_rules.specs.Names.{Import}
use Rattle.proto_names_rules.specs.Cycles.{Leads}
use Rattle.proto_names_rules.specs.Faults.{Fault, fault, IsLeast, AfterEarlier, AskedImport, file_with_path, imports_of}
use Rattle.proto_names_rules.specs.Grown.{at}
use Rattle.proto_names_imports.specs.Walks.{IsMarked, Walks}
use Rattle.proto_names_imports.specs.declared.import.WrittenImport.{WrittenImport}

-- the least of a set of faults, or that there is none
abbrev pub IsFirst : (Fault → Type 0) → Option Fault → Type 0
IsFirst Says None = (f : Fault) → Says f → ⊥
IsFirst Says (Some f) = IsLeast Says f

-- an import whose path no file has, or an earlier import of its file
pub data PathFault (paths : List Path) (asked : List AskedImport) : Fault → Type 0 where
  unknown : (a : AskedImport) → Contains asked a → file_with_path paths a.path ≡ None
      → PathFault paths asked (fault a.place 10)
  double : (a : AskedImport)
      → AfterEarlier (λ x y. (x.place.file ≡ y.place.file) × (x.path ≡ y.path)) asked a
      → PathFault paths asked (fault a.place 11)

-- an import on a cycle
pub data CycleFault (paths : List Path) (asked : List AskedImport) : Fault → Type 0 where
  cycle : (a : AskedImport) (to : ℕ) → Contains asked a → file_with_path paths a.path ≡ Some to
      → Leads (imports_of paths asked) to a.place.file → CycleFault paths asked (fault a.place 12)

-- the map gives the file with a path
abbrev pub IsFileIndex : {S : Type 0} → IndexMap (String Global) ℕ S → List Path → Type 0
IsFileIndex index paths = (path : Path) → get_by_text index path ≡ file_with_path paths path

-- the import names a marked file
abbrev pub NamesMarked : List Path → List Bool → WrittenImport → Type 0
NamesMarked paths marked w =
    (to : ℕ) × (file_with_path paths (string_bytes w.path) ≡ Some to) × IsMarked marked to

-- an import of this file that names a marked file, as an import on a cycle
abbrev pub MarkedFault : List Path → List Bool → ℕ → List WrittenImport → Fault → Type 0
MarkedFault paths marked file ws f =
    (w : WrittenImport) × Contains ws w × NamesMarked paths marked w
    × (f ≡ fault (at file w.token) 12)

-- one list has what the other has, turned round
abbrev pub AreTurned : List (List ℕ) → List (List ℕ) → Type 0
AreTurned next back = (a b : ℕ) → Contains (get_or next a []) b ↔ Contains (get_or back b []) a

-- the list of a file has the files that import it
abbrev pub AreImporters : List (List ℕ) → List Import → Type 0
AreImporters lists imports =
    (from to : ℕ)
    → Contains (get_or lists to []) from
    ↔ ((i : Import) × Contains imports i × (i.from ≡ from) × (i.to ≡ to))

-- no file of a list leads back, along the other lists, to the file that has the list
abbrev pub NoneLeadsBack : List (List ℕ) → List (List ℕ) → Type 0
NoneLeadsBack next back =
    (file target : ℕ) → Contains (get_or next file []) target → Walks back file target → ⊥

-- imports of the file lead back to it
abbrev pub LeadsToItself : List Import → ℕ → Type 0
LeadsToItself imports file =
    (i : Import) × Contains imports i × (i.from ≡ file) × Leads imports i.to file
