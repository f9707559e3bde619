-- Marks of files, one for each: those that an edit affects, and those whose enums they mean.
use Rattle.std.specs.Prelude.{◌≡◌, ◌⊎◌, ℕ, ◌<◌, Bool, true, false, not, ◌||◌, List, [], length, get_or, Option, Some, option_map}
use Rattle.std.specs.List.{All}
use Rattle.proto_files.specs.Faults.{HasNoFault}
use Rattle.proto_files.specs.FilesRead.{AreRead, ReadOf, read_at}
use Rattle.proto_files.specs.GivenFiles.{FileOf}
use Rattle.proto_names_imports.specs.Links.{LinkFaults}
use Rattle.proto_names_update.specs.Relinked.{HasToLook}
use Rattle.proto_names_affected.specs.Marking.{IsMarked}
use Rattle.proto_names.specs.LinkOfFiles.{IsLinkOf}
use Rattle.proto_names.specs.Linking.{LinkOf, Meant, RefId, declaring_file, name_at}
use Rattle.proto_names.specs.Referring.{word_key}
use Rattle.proto_resolved.specs.Enums.{IsEnumTableOf}
use Rattle.proto_resolved.specs.Meanings.{HasEnumsMeant}
use Rattle.proto_resolved.specs.declared.enum_table.EnumTable.{EnumTable}
use Rattle.proto_desc_extensions.specs.Extends.{has_extend}
use Rattle.proto_desc_affected.specs.Checked.{AreKeptOf, IsKeptStill, FileSummaryOf, is_message_kind, kept_by_link, nothing_kept}
use Rattle.proto_desc_affected.specs.StillEnums.{is_still_to}
use Rattle.proto_desc_affected.specs.Unaffected.{AreSoundlyEdited}

-- each file that is not marked is not edited, and by the link its references mean what is kept
abbrev pub AreOthersKept
    : List ℕ → List FileOf → LinkOf → List FileSummaryOf → List Bool → Type 0
AreOthersKept places files l ks marks =
    (file : ℕ) → file < length files → get_or marks file false ≡ false
    → IsKeptStill places files l ks file

-- so it is with each file that is not marked, if it was unsure
abbrev pub AreUnsureKept
    : List ℕ → List FileOf → LinkOf → List FileSummaryOf → List Bool → List Bool → Type 0
AreUnsureKept places files l ks unsure marks =
    (file : ℕ) → file < length files → get_or marks file false ≡ false
    → (get_or unsure file false ≡ false)
    ⊎ IsKeptStill places files l ks file

-- ---- by marks that are told

-- who refers to the name in this row has to be checked again, where that is edited: the name is
-- neither a message's nor an enum's that is to this file, which refers to it, what is kept of it; or
-- the file had an `extend` block
abbrev pub counts_to : LinkOf → List FileSummaryOf → (ℕ → Option Bool) → ℕ → ℕ → Bool
counts_to l ks still row file =
    not (is_message_kind (option_map (λ n. n.kind) (name_at l row))
    || is_still_to (get_or ks file nothing_kept).is_proto3 (still row))
    || (get_or ks file nothing_kept).has_extend

-- the file of this reference to the name in this row is marked, if the name counts to it
abbrev pub IsUserMarked
    : LinkOf → List FileSummaryOf → (ℕ → Option Bool) → List Bool → ℕ → RefId → Type 0
IsUserMarked l ks still marks row r =
    counts_to l ks still row r.file ≡ true → r.file < length marks → IsMarked marks r.file

-- so it is with each reference to the name in this row
abbrev pub AreUsersMarked
    : LinkOf → List FileSummaryOf → (ℕ → Option Bool) → List Bool → ℕ → Type 0
AreUsersMarked l ks still marks row =
    All (IsUserMarked l ks still marks row) (get_or l.references row [])

-- so it is with each name that one of the files at these places declares
abbrev pub AreUsersOfFilesMarked
    : List ℕ → LinkOf → List FileSummaryOf → (ℕ → Option Bool) → List Bool → Type 0
AreUsersOfFilesMarked places l ks still marks =
    All (λ file. All (AreUsersMarked l ks still marks) (get_or l.rows file [])) places

-- where what is kept is of files without faults, and the marks that are told are of the files that
-- have to be re-checked once these are edited: each file that is not marked is not edited, and
-- by the link its references mean what is kept
abbrev pub AreOthersKeptAsTold
    : List ℕ → List FileOf → LinkOf → List FileSummaryOf → List Bool → List Bool → Type 0
AreOthersKeptAsTold places files l ks told marks =
    (before : List FileOf) (was reads : List ReadOf)
    → AreSoundlyEdited places before was files reads → HasNoFault (LinkFaults before)
    → AreKeptOf before ks → HasToLook word_key places before was files reads told
    → AreOthersKept places files l ks marks

-- ---- what is asked of marked files

-- no marked file has an `extend` block, and none had one
abbrev pub HasNoMarkedExtends : List FileOf → List FileSummaryOf → List Bool → Type 0
HasNoMarkedExtends files ks marks =
    (reads : List ReadOf) → AreRead files reads
    → (file : ℕ) → file < length files → IsMarked marks file
    → ((get_or ks file nothing_kept).has_extend ≡ false)
    × (has_extend (read_at reads file).tree ≡ false)

-- the file is marked that declares the name which the reference means, unless it is a message's
abbrev pub IsEnumMarked : LinkOf → List Bool → Meant → Type 0
IsEnumMarked l wanted m =
    (kept_by_link l m).is_message ≡ false
    → (file : ℕ) → declaring_file l m.row ≡ Some file → file < length wanted
    → IsMarked wanted file

-- there are as many marks as files, and so it is with each reference of a marked file
pub record AreEnumsMarked (files : List FileOf) (l : LinkOf) (marks wanted : List Bool)
    : Type 0 where
  pub len : length wanted ≡ length files
  pub each : (file : ℕ) → file < length files → IsMarked marks file
      → All (IsEnumMarked l wanted) (get_or l.meant file [])

-- then a table of the enums of the wanted files has those that a marked file's references mean
abbrev pub WantedEnumsAreThere : Type 0
WantedEnumsAreThere =
    (files : List FileOf) (l : LinkOf) → IsLinkOf files l
    → (marks wanted : List Bool) → AreEnumsMarked files l marks wanted
    → (table : EnumTable) → IsEnumTableOf files wanted table
    → (file : ℕ) → file < length files → IsMarked marks file
    → HasEnumsMeant files l file table
