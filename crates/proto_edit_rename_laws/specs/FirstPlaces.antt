-- A rename that captures a reference has one least captured place.
use Rattle.std.specs.Prelude.{◌≡◌, ℕ, List}
use Rattle.proto_base.specs.Texts.{Path, Text}
use Rattle.proto_files.specs.GivenFiles.{FileOf}
use Rattle.proto_files.specs.FilesRead.{ReadOf}
use Rattle.proto_names_rules.specs.Grown.{At}
use Rattle.proto_names_rules.specs.Skeleton.{Used}
use Rattle.proto_edit_rules.specs.Rename.{Captures, IsFirstPlace, Target}

-- There is one, where a reference is captured.
abbrev pub FirstPlacesAreThere : Type 0
FirstPlacesAreThere =
    (files : List FileOf) (reads : List ReadOf) (t : Target) (to : Text) (u : Used At)
    → Captures files reads t to u
    → (path : Path) × (offset : ℕ)
    × IsFirstPlace files reads (Captures files reads t to) path offset

-- Two such places are the same.
abbrev pub FirstPlacesAreOne : Type 0
FirstPlacesAreOne =
    (files : List FileOf) (reads : List ReadOf) (t : Target) (to : Text) (path other : Path)
    (offset at : ℕ)
    → IsFirstPlace files reads (Captures files reads t to) path offset
    → IsFirstPlace files reads (Captures files reads t to) other at
    → (path ≡ other) × (offset ≡ at)
