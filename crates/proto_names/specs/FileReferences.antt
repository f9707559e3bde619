-- What the references of each file of a workspace mean, and the least that is faulty.
use Rattle.std.specs.Prelude.{◌≡◌, ℕ, ◌<◌, Bool, List, [], ◌∷◌, ◌++◌, length, get_or, map}
use Rattle.std.specs.Global.{Vec}
use Rattle.std.specs.List.{All}
use Rattle.proto_base.specs.Texts.{Text}
use Rattle.proto_files.specs.GivenFiles.{FileOf}
use Rattle.proto_names_rules.specs.Faults.{fault, IsLeast, ReferenceFault}
use Rattle.proto_names_rules.specs.Grown.{At, at}
use Rattle.proto_files.specs.FilesRead.{ReadOf}
pub use Rattle.proto_names_imports.specs.Links.{uses_of}
use Rattle.proto_names_imports.specs.Links.{link_skeleton, names_of_files, text_of}
use Rattle.proto_names_rules.specs.Names.{Workspace}
use Rattle.proto_names_table.specs.Naming.{used_named}
use Rattle.proto_names_update.specs.NamesOfFiles.{declared_names}
use Rattle.proto_names.specs.Referring.{IsFaultless, IsFlawed, IsReadBy, AreMeant}
use Rattle.proto_names_rules.specs.Skeleton.{Used}
use Rattle.proto_names.specs.declared.references.BadReference.{BadReference}
use Rattle.proto_names_table.specs.declared.ids.Meant.{Meant}
use Rattle.proto_base.specs.declared.or_no_memory.OrNoMemory.{OrNoMemory}
use Rattle.proto_base.specs.declared.or_no_memory.OrNoMemory.TheVariants as or
use Rattle.proto_names.specs.declared.references.ReferenceFlaw.{ReferenceFlaw}
use Rattle.proto_names.specs.declared.references.ReferenceFlaw.TheVariants.{Unresolved, WrongKind, MapEntry}
use Rattle.proto_names_table.specs.declared.table.Table.{Table}

-- the number of the fault that a reference has
abbrev pub flaw_number : ReferenceFlaw → ℕ
flaw_number Unresolved = 14
flaw_number WrongKind = 15
flaw_number MapEntry = 16

-- the table, these marks and these rows are those of the file
abbrev pub IsFileLinked : Table → List Bool → List ℕ → List FileOf → List ReadOf → ℕ → Type 0
IsFileLinked t seen rows files reads file =
    IsReadBy t seen rows (declared_names files reads file) file (names_of_files files reads)

-- the table, and for each file its marks and its rows, are those of the files
abbrev pub AreLinked : Table → List (List Bool) → List (Vec ℕ) → List FileOf → List ReadOf → Type 0
AreLinked t seen rows files reads =
    (k : ℕ) → k < length files
    → IsFileLinked t (get_or seen k [])
    (get_or (map (λ v. v.items) rows) k []) files reads k

-- these are what the references of the file mean
abbrev pub AreFileMeant : Table → List FileOf → List ReadOf → ℕ → List Meant → Type 0
AreFileMeant t files reads file ms =
    AreMeant t (names_of_files files reads)
    (map (used_named (text_of files reads) file) (uses_of reads file))
    (map (λ u. u.first) (uses_of reads file)) ms

-- a faulty reference of a file, behind others that are not
pub record IsFirstFlawed (w : Workspace) (text : At → Text) (file : ℕ) (uses : List (Used ℕ))
    (bad : BadReference) : Type 0 where
  pub before : List (Used ℕ)
  pub faulty : Used ℕ
  pub behind : List (Used ℕ)
  pub parts : uses ≡ before ++ faulty ∷ behind
  pub file_is : bad.file ≡ file
  pub token_is : bad.token ≡ faulty.first
  pub flawed : IsFlawed w (used_named text file faulty) bad.flaw
  pub faultless : All (λ u. IsFaultless w (used_named text file u)) before

-- the error is out of memory, or the first faulty reference of the file
abbrev pub IsFileReferenceError : List FileOf → List ReadOf → ℕ → OrNoMemory BadReference → Type 0
IsFileReferenceError files reads file (or.Fault bad) =
    IsFirstFlawed (names_of_files files reads) (text_of files reads) file (uses_of reads file) bad
IsFileReferenceError files reads file or.NoMemory = Unit {0}

-- the error is out of memory, or the least faulty reference of all files, by file, token and
-- number of its fault
abbrev pub IsLeastBad : List FileOf → List ReadOf → OrNoMemory BadReference → Type 0
IsLeastBad files reads (or.Fault bad) =
    IsLeast (ReferenceFault (text_of files reads) (link_skeleton files reads))
    (fault (at bad.file bad.token) (flaw_number bad.flaw))
IsLeastBad files reads or.NoMemory = Unit {0}
