-- What a link of files was before some were edited, and when the files have no fault of imports,
-- names and references again.
use Rattle.std.specs.Prelude.{◌≡◌, ℕ, Bool, true, false, List, get_or}
use Rattle.std.specs.List.{Contains}
use Rattle.proto_files.specs.Faults.{HasNoFault}
use Rattle.proto_files.specs.FilesRead.{AreRead, ReadOf}
use Rattle.proto_files.specs.GivenFiles.{FileOf, paths_of}
use Rattle.proto_names_imports.specs.Links.{LinkFaults, all_wanted, link_skeleton, names_of_files, text_of}
use Rattle.proto_names_rules.specs.Kept.{IsFlawless}
use Rattle.proto_names_rules.specs.Marked.{AreMarked, IsUnmarked}
use Rattle.proto_names_rules.specs.Faults.{Fault, ImportFault, NameFault}
use Rattle.proto_names_rules.specs.Names.{Reference, Word, meaning}
use Rattle.proto_names_update.specs.Edited.{AreEdited, AreSameBut}

-- ---- what a link was

-- the link of files that are read and have no fault of imports, names and references (when a link
-- is that of files, stands above: `IsLink` is `IsLinkOf` of proto_names)
pub record IsCleanLink {L : Type 0} (IsLink : List FileOf → L → Type 0) (files : List FileOf)
    (l : L) : Type 0 where
  pub link : IsLink files l
  pub clean : HasNoFault (LinkFaults files)
  pub reads : List ReadOf
  pub read : AreRead files reads

-- it was the link of files without these faults, which had other bytes at these places
abbrev pub WasLink : {L : Type 0}
    → (List FileOf → L → Type 0) → List FileOf → List ℕ → L → Type 0
WasLink IsLink files places l =
    (before : List FileOf) × IsCleanLink IsLink before l × AreSameBut places before files

-- ---- which files have to be re-resolved

-- the marks are of the edited files, of those with a reference to a type that went, or that their
-- file sees no more, and of those with one whose first word has the key of the last word of a name
-- that came, or that their file newly sees, right below the empty name or one that their file
-- declares, unless it declares that very name
abbrev pub HasToLook : (Word → ℕ) → List ℕ → List FileOf → List ReadOf
    → List FileOf → List ReadOf → List Bool → Type 0
HasToLook key places before was files reads marks =
    AreMarked key places (names_of_files before was) (names_of_files files reads) marks

-- of files without faults, edited at these places, what a reference of any other file means stays
abbrev pub UnmarkedFilesMeanTheSame : Type 0
UnmarkedFilesMeanTheSame =
    (key : Word → ℕ) (places : List ℕ) (before : List FileOf) (was : List ReadOf)
    → (files : List FileOf) (reads : List ReadOf) (marks : List Bool)
    → AreEdited places before was files reads → HasNoFault (LinkFaults before)
    → HasToLook key places before was files reads marks
    → (r : Reference) → Contains (names_of_files files reads).references r → IsUnmarked marks r.file
    → meaning (names_of_files files reads) r ≡ meaning (names_of_files before was) r

-- no import of the files is faulty
abbrev pub NoImportIsFaulty : List FileOf → List ReadOf → Type 0
NoImportIsFaulty files reads =
    (f : Fault) → ImportFault (paths_of files) (all_wanted (text_of files reads) 0 reads) f → ⊥

-- no declaration of the files clashes with another by its name
abbrev pub NoNameClashes : List FileOf → List ReadOf → Type 0
NoNameClashes files reads =
    (f : Fault) → NameFault (text_of files reads) (link_skeleton files reads).declared f → ⊥

-- and they have no fault of imports, names and references, if imports and names have none, and no
-- reference of a marked file
abbrev pub RelinkedAreClean : Type 0
RelinkedAreClean =
    (key : Word → ℕ) (places : List ℕ) (before : List FileOf) (was : List ReadOf)
    → (files : List FileOf) (reads : List ReadOf) (marks : List Bool)
    → AreEdited places before was files reads → HasNoFault (LinkFaults before)
    → HasToLook key places before was files reads marks
    → NoImportIsFaulty files reads → NoNameClashes files reads
    → ((r : Reference) → Contains (names_of_files files reads).references r
    → get_or marks r.file false ≡ true → IsFlawless (names_of_files files reads) r)
    → HasNoFault (LinkFaults files)
