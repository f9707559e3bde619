-- The rename of a name over the files of a workspace: the case
-- that refuses it, and what it changes.
use Rattle.std.specs.Prelude.{◌≡◌, ℕ, ◌<◌, List, string_bytes}
use Rattle.proto_base.specs.Texts.{Path, Text}
use Rattle.proto_files.specs.FilesRead.{ReadOf, AreRead}
use Rattle.proto_files.specs.GivenFiles.{FileOf}
use Rattle.proto_edit_entries.specs.declared.refusal.Refusal.{Refusal}
use Rattle.proto_edit_entries.specs.declared.refusal.Refusal.TheVariants as refusal
use Rattle.proto_edit_entries.specs.Entries.{ChangeOf}
use Rattle.proto_edit_entries.specs.RefusalTable.{refusal_number}
use Rattle.proto_edit_rules.specs.Options.{IsFirstToken}
use Rattle.proto_edit_rules.specs.Rename.{Captures, IsFirstPlace, IsValueWord, RenameCase, changes_of_words, Target, IsNamed, renamed_words}

-- case n refuses the rename
abbrev pub IsRenameCase : List FileOf → Text → Text → ℕ → Type 0
IsRenameCase files name to n = (reads : List ReadOf)
    × AreRead files reads
    × RenameCase files reads name to n

-- case n refuses it, and none before it
pub record IsLeastRenameCase (files : List FileOf) (name to : Text) (n : ℕ) : Type 0 where
  pub is : IsRenameCase files name to n
  pub least : (k : ℕ) → k < n → IsRenameCase files name to k → ⊥

-- the path and offset of the least captured reference
abbrev pub IsCapturedAt : List FileOf → Text → Text → Path → ℕ → Type 0
IsCapturedAt files name to path offset = (reads : List ReadOf)
    × AreRead files reads
    × ((t : Target)
    × IsNamed files reads name t
    × IsFirstPlace files reads (Captures files reads t to) path offset)

-- the path and offset of the least word of an option that may stand for what is renamed
abbrev pub IsValueWordAt : List FileOf → Text → Text → Path → ℕ → Type 0
IsValueWordAt files name to path offset = (reads : List ReadOf)
    × AreRead files reads
    × ((t : Target)
    × IsNamed files reads name t
    × IsFirstToken files reads (IsValueWord files reads t to) path offset)

-- The least case, with its place where a reference is captured, or a word of an option may stand
-- for what is renamed; out of memory may be answered instead.
abbrev pub IsRenameRefusal : List FileOf → Text → Text → Refusal → Type 0
IsRenameRefusal files name to refusal.NoMemory = Unit {0}
IsRenameRefusal files name to (refusal.Captured path offset) = IsLeastRenameCase files name to 7
    × IsCapturedAt files name to (string_bytes path) offset
IsRenameRefusal files name to (refusal.Needed path offset) = ⊥
IsRenameRefusal files name to (refusal.OptionValue path offset) = IsLeastRenameCase files name to 19
    × IsValueWordAt files name to (string_bytes path) offset
IsRenameRefusal files name to r = IsLeastRenameCase files name to (refusal_number r)

-- these are the changes of its new words
abbrev pub AreChangesOfRename : List FileOf → Text → Text → List ChangeOf → Type 0
AreChangesOfRename files name to cs = (reads : List ReadOf)
    × AreRead files reads
    × ((t : Target)
    × IsNamed files reads name t
    × (cs ≡ changes_of_words (renamed_words files reads t to) files reads))

-- no case refuses it, and these are the changes of its new words
pub record IsRenamed (files : List FileOf) (name to : Text) (cs : List ChangeOf) : Type 0 where
  pub admissible : (n : ℕ) → IsRenameCase files name to n → ⊥
  pub changes : AreChangesOfRename files name to cs
