-- What the calls of a workspace answer.
use Rattle.std.specs.Prelude.{◌≡◌, List, Result, Ok, Err}
use Rattle.proto_files.specs.GivenFiles.{FileOf}
use Rattle.proto_edit_entries.specs.declared.refusal.Refusal.{Refusal}
use Rattle.proto_edit_entries.specs.declared.refusal.Refusal.TheVariants as refusal
use Rattle.proto_edit.specs.Compiled.{AreCompiled}
pub use Rattle.proto_edit_entries.specs.EditsAsked.{asked}
use Rattle.proto_edit_entries.specs.Entries.{ChangeOf}
use Rattle.proto_edit_entries.specs.Putting.{IsPut}
use Rattle.proto_edit.specs.Workspaces.{Asked, IsUndo, Run, accepted, Undone}

-- an entry is stale where no files before it are there, or they don't compile
abbrev pub IsUndoRefusal : List FileOf → List ChangeOf → Refusal → Type 0
IsUndoRefusal w cs refusal.Stale = (before : List FileOf) → IsUndo w cs before → ⊥
IsUndoRefusal w cs refusal.NoMemory = Unit {0}
IsUndoRefusal w cs _ = ⊥

-- changes are stale where no files with them are there, or they don't compile
abbrev pub IsPutRefusal : List FileOf → List ChangeOf → Refusal → Type 0
IsPutRefusal w cs refusal.Stale = (after : List FileOf) → IsPut w cs after → AreCompiled after → ⊥
IsPutRefusal w cs refusal.NoMemory = Unit {0}
IsPutRefusal w cs _ = ⊥

-- memory, or an entry that can't be undone from where the ones after it lead;
-- then no files are before them all
abbrev pub IsUndoAllRefusal : List FileOf → List (List ChangeOf) → Refusal → Type 0
IsUndoAllRefusal w ss refusal.Stale = (to : List FileOf) → Undone w ss to → ⊥
IsUndoAllRefusal w ss refusal.NoMemory = Unit {0}
IsUndoAllRefusal w ss _ = ⊥

-- From the files of a run, its entries undone lead back, unless memory runs out.
abbrev pub LeadsBack : List FileOf → List (List ChangeOf) → Result (List FileOf) Refusal → Type 0
LeadsBack w entries (Ok to) =
    (first : List FileOf) (es : List Asked) (given : List (Result (List ChangeOf) Refusal))
    → AreCompiled first → Run first es given w → accepted given ≡ entries → to ≡ first
LeadsBack w entries (Err refusal.NoMemory) = Unit {0}
LeadsBack w entries (Err r) =
    (first : List FileOf) (es : List Asked) (given : List (Result (List ChangeOf) Refusal))
    → AreCompiled first → Run first es given w → accepted given ≡ entries → ⊥
