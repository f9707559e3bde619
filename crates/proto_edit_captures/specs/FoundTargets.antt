-- When what was found is the target that has a name, and why a name may have none.
use Rattle.std.specs.Prelude.{◌≡◌, ◌<◌, ◌++◌, false, List, length}
use Rattle.std.specs.List.{Contains}
use Rattle.proto_base.specs.Texts.{Text}
use Rattle.proto_files.specs.GivenFiles.{FileOf}
use Rattle.proto_files.specs.FilesRead.{ReadOf, AreRead}
use Rattle.proto_names_rules.specs.Grown.{at}
use Rattle.proto_names_rules.specs.Joined.{joined}
use Rattle.proto_names_rules.specs.Names.{Symbol}
use Rattle.proto_names_imports.specs.Links.{names_of_files, text_of}
use Rattle.proto_edit_rules.specs.Rename.{IsUnknown, Target, IsNamed, may_rename}
use Rattle.proto_edit_captures.specs.declared.rename_target.RenameTarget.{RenameTarget}
use Rattle.proto_edit_captures.specs.declared.rename_target.NoTarget.{NoTarget}
use Rattle.proto_edit_captures.specs.declared.rename_target.NoTarget.TheVariants.{Unknown, NotAllowed, NoMemory}

-- the target that has the name, as the files are read
pub record IsFoundTarget
    (files : List FileOf) (reads : List ReadOf) (a : RenameTarget) (t : Target) : Type 0 where
  pub named : IsNamed files reads a.name.now t
  pub token : at a.file a.token ≡ t.token
  pub kind : a.kind ≡ t.aim.kind
  pub is_map : a.is_map ≡ t.is_map

-- it is the target that has its name, in these files
abbrev pub IsTargetOf : List FileOf → RenameTarget → Type 0
IsTargetOf files a = (reads : List ReadOf)
    → AreRead files reads
    → (t : Target) × IsFoundTarget files reads a t

-- a symbol has the name that may not be renamed
pub record IsNotAllowed (files : List FileOf) (reads : List ReadOf) (name : Text) : Type 0 where
  pub symbol : Symbol
  pub within : Contains (names_of_files files reads).symbols symbol
  pub name_is : joined symbol.name ≡ name
  pub kind : may_rename symbol.kind ≡ false

-- why no target has the name
abbrev pub IsNoTarget : List FileOf → Text → NoTarget → Type 0
IsNoTarget files name Unknown = (reads : List ReadOf)
    → AreRead files reads
    → IsUnknown files reads name
IsNoTarget files name NotAllowed = (reads : List ReadOf)
    → AreRead files reads
    → IsNotAllowed files reads name
IsNoTarget files name NoMemory = Unit {0}

-- its name is a front, and the word of its token behind that
abbrev pub IsSpelled : List FileOf → RenameTarget → Type 0
IsSpelled files a = (a.file < length files)
    × ((reads : List ReadOf) → AreRead files reads
    → (front : Text) × (a.name.now ≡ front ++ text_of files reads (at a.file a.token)))
