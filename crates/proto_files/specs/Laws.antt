-- Laws of the definitions, for the layers above.
use Rattle.std.specs.Prelude.{◌≡◌, ℕ, List, map, All, IsPermutation}
use Rattle.proto_base.specs.FaultTable.{phase_of}
use Rattle.proto_base.specs.Texts.{Path}
use Rattle.proto_base.specs.declared.profile.Profile.TheVariants as profile
use Rattle.proto_files.specs.Faults.{FaultAt, ComesBefore, HasNoFault}
use Rattle.proto_files.specs.FilesRead.{AreRead, ReadOf}
use Rattle.proto_files.specs.GivenFiles.{FileOf, AreWorkspaceFiles}
use Rattle.proto_files.specs.PathFaults.{PathFaults}
use Rattle.proto_files.specs.ReadFaults.{TextFaults, GrammarFaults, ReadFaults}

-- The same files have one order of their paths.
abbrev pub OneOrder : Type 0
OneOrder =
    (a b : List FileOf) → IsPermutation a b → AreWorkspaceFiles a → AreWorkspaceFiles b → a ≡ b

-- Faults of paths are of phase 0.
abbrev pub PathsArePhase0 : Type 0
PathsArePhase0 =
    (limit : ℕ) (paths : List Path) (x : FaultAt) → PathFaults limit paths x → phase_of x.kind ≡ 0

-- Faults of texts are of phase 1.
abbrev pub TextsArePhase1 : Type 0
TextsArePhase1 = (files : List FileOf) (x : FaultAt) → TextFaults files x → phase_of x.kind ≡ 1

-- Faults of the grammar are of phase 2.
abbrev pub GrammarIsPhase2 : Type 0
GrammarIsPhase2 = (files : List FileOf) (x : FaultAt) → GrammarFaults files x → phase_of x.kind ≡ 2

-- Two faults, neither before the other, are the same. (So a set of faults has one least.)
abbrev pub ApartInOrder : Type 0
ApartInOrder = (x y : FaultAt) → (ComesBefore x y → ⊥) → (ComesBefore y x → ⊥) → x ≡ y

-- ---- the core language and the language as written

-- the same file, of the language as written
abbrev pub as_written : FileOf → FileOf
as_written f = record f { profile = profile.AsWritten }

-- each of the files is of the core language
abbrev pub AreCore : List FileOf → Type 0
AreCore files = All (λ f. f.profile ≡ profile.Core) files

-- Files that are read in the core language are read as written, with the same tokens and trees.
abbrev pub CoreFilesAreWritten : Type 0
CoreFilesAreWritten =
    (files : List FileOf) (reads : List ReadOf) → AreCore files → AreRead files reads
    → AreRead (map as_written files) reads

-- They have no fault as written, where they have none in the core language.
abbrev pub CoreFilesStayClean : Type 0
CoreFilesStayClean =
    (files : List FileOf) (reads : List ReadOf) → AreCore files → AreRead files reads
    → HasNoFault (ReadFaults files) → HasNoFault (ReadFaults (map as_written files))
