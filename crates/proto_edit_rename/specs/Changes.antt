-- The changes of a rename, file by file.
use Rattle.std.specs.Prelude.{◌≡◌, ◌↔◌, ℕ, ◌<◌, ◌==◌, Bool, false, if◌then◌else◌, List, [], ◌∷◌, length, get_or, flat_map, Option, Some, None, option_map}
use Rattle.std.specs.List.{Contains}
use Rattle.proto_base.specs.Texts.{Text}
use Rattle.proto_file_sets.specs.FileSets.{files_in}
use Rattle.proto_files.specs.GivenFiles.{FileOf}
use Rattle.proto_files.specs.FilesRead.{ReadOf, AreRead, read_at}
use Rattle.proto_names_rules.specs.Grown.{At, at}
use Rattle.proto_names_rules.specs.Joined.{joined, ArePlain}
use Rattle.proto_edit_entries.specs.Entries.{ChangeOf}
use Rattle.proto_names_imports.specs.Links.{link_skeleton, text_of}
use Rattle.proto_edit_rules.specs.Rename.{IsRewordedTooLong, changes_of_words, fields_of_file, renamed_default, renamed_defaults, renamed_places, NewWords, Target, name_map, renamed_words}
use Rattle.proto_edit_entries.specs.declared.entry.Change.{Change}
use Rattle.proto_edit_rename.specs.MadeChanges.{IsFileChange}
use Rattle.proto_edit_rename.specs.declared.changing.RewordFault.{RewordFault}
use Rattle.proto_edit_rename.specs.declared.changing.RewordFault.TheVariants.{TooLarge, NoMemory}
use Rattle.proto_edit_captures.specs.FoundTargets.{IsFoundTarget}
use Rattle.proto_edit_captures.specs.declared.rename_target.RenameTarget.{RenameTarget}

-- the tokens that a rename changes
abbrev pub places_of : List FileOf → List ReadOf → Target → Text → List At
places_of files reads t to =
    renamed_places (text_of files reads) (link_skeleton files reads) (name_map files reads t to)
    t.token (renamed_defaults files reads t.enum (name_map files reads t to).old)

-- these tokens of the file, and no others of it, whatever the new name is
abbrev pub ArePlacesIn : List FileOf → RenameTarget → ℕ → List ℕ → Type 0
ArePlacesIn files aim file found = (reads : List ReadOf)
    → AreRead files reads
    → (t : Target)
    → IsFoundTarget files reads aim t
    → (to : Text) (i : ℕ)
    → Contains found i ↔ Contains (places_of files reads t to) (at file i)

-- these are all changes, and no file gets too long by them
pub record AreWholeChanges
    (files : List FileOf) (reads : List ReadOf) (c : NewWords) (cs : List ChangeOf) : Type 0 where
  pub changes : cs ≡ changes_of_words c files reads
  pub short : (k : ℕ) → k < length files → IsRewordedTooLong c files reads k → ⊥

-- the same of each reading of the files
abbrev pub AreChangesOf : List FileOf → RenameTarget → Text → List ChangeOf → Type 0
AreChangesOf files aim to cs = (reads : List ReadOf)
    → AreRead files reads
    → (t : Target)
    → IsFoundTarget files reads aim t
    → AreWholeChanges files reads (renamed_words files reads t to) cs

-- a file gets too long by them, or memory is wanting
abbrev pub IsChangesFault : List FileOf → RenameTarget → Text → RewordFault → Type 0
IsChangesFault files aim to TooLarge = (reads : List ReadOf)
    → AreRead files reads
    → (t : Target)
    → IsFoundTarget files reads aim t
    → (k : ℕ) × (k < length files) × IsRewordedTooLong
    (renamed_words files reads t to) files reads k
IsChangesFault files aim to NoMemory = Unit {0}

-- ---- the tokens of a file

-- the name of the enum that has the value, if it is one, and its old word
abbrev pub IsValueOf : List FileOf → RenameTarget → Option Text → Text → Type 0
IsValueOf files aim enum_name old = (reads : List ReadOf)
    → AreRead files reads
    → (old ≡ text_of files reads (at aim.file aim.token))
    × ((t : Target) → IsFoundTarget files reads aim t → enum_name ≡ option_map joined t.enum)

-- the token, if it is one of this file
abbrev pub or_own : ℕ → ℕ → ℕ → List ℕ
or_own own token file = if own == file then token ∷ [] else []

-- the defaults of the file that mean the value of the enum with this full name
abbrev pub HasDefaultsIn : List FileOf → ℕ → Option Text → Text → List ℕ → Type 0
HasDefaultsIn files file None old found = found ≡ []
HasDefaultsIn files file (Some name) old found = (reads : List ReadOf)
    → AreRead files reads
    → (enum : List Text)
    → ArePlain enum
    → joined enum ≡ name
    → found ≡ flat_map (renamed_default files reads (Some enum) old file)
    (fields_of_file (read_at reads file).tree)

-- ---- the change of a file

-- the change that the new words make of the file, or none, and the file does not get too long
abbrev pub IsChangeIn : List FileOf → RenameTarget → ℕ → Text → Option Change → Type 0
IsChangeIn files aim file to found = (reads : List ReadOf)
    → AreRead files reads
    → (t : Target)
    → IsFoundTarget files reads aim t
    → IsFileChange files reads (renamed_words files reads t to) file found

-- it gets too long, or memory is wanting
abbrev pub IsFaultIn : List FileOf → RenameTarget → ℕ → Text → RewordFault → Type 0
IsFaultIn files aim file to TooLarge = (reads : List ReadOf)
    → AreRead files reads
    → (t : Target)
    → IsFoundTarget files reads aim t
    → IsRewordedTooLong (renamed_words files reads t to) files reads file
IsFaultIn files aim file to NoMemory = Unit {0}

-- ---- the files that are changed

-- the files of a set, in order: of no other file does the rename change words, whatever the new name
-- is
pub record AreFilesToChange (files : List FileOf) (aim : RenameTarget) (listed : List ℕ)
    : Type 0 where
  pub set : List Bool
  pub as_many : length set ≡ length files
  pub are : listed ≡ files_in set
  pub others : (file : ℕ) (to : Text) → file < length files → get_or set file false ≡ false
      → IsChangeIn files aim file to None
