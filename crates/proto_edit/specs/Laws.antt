-- The laws of edits over workspaces and over runs.
use Rattle.std.specs.Prelude.{◌≡◌, ℕ, List, reverse, Result}
use Rattle.proto_base.specs.Texts.{Path}
use Rattle.proto_files.specs.Faults.{HasNoFault}
use Rattle.proto_files.specs.FilesRead.{ReadOf, AreRead}
use Rattle.proto_files.specs.GivenFiles.{FileOf}
use Rattle.proto_desc.specs.Whole.{WorkspaceFaults}
use Rattle.proto_desc.specs.Checked.{AreDescribed}
use Rattle.proto_descriptors.specs.Descriptors.{FileDesc}
use Rattle.proto_edit_entries.specs.declared.refusal.Refusal.{Refusal}
use Rattle.proto_edit_entries.specs.EditsAsked.{IsNotable}
use Rattle.proto_edit_entries.specs.Entries.{ChangeOf, IsEntry}
use Rattle.proto_edit_entries.specs.Putting.{IsPut}
use Rattle.proto_edit_rules.specs.OptionViews.{OptionsStay}
use Rattle.proto_edit_rules.specs.Rename.{IsNamed, Target, name_map}
use Rattle.proto_names_rules.specs.Edits.{ren}
use Rattle.proto_names_rules.specs.Names.{Name}
use Rattle.proto_edit.specs.Compiled.{AreCompiled}
use Rattle.proto_edit.specs.Workspaces.{Asked, add_import, delete_field, drop_import, rename, IsAdmissible, IsLeastCase, IsCaseAt, IsWordAt, AreChanges, AreMapped, IsStep, IsMappedStep, IsUndo, Run, accepted, Undone}

-- ---- workspaces

-- Files that compile have no fault, as a workspace that is given.
abbrev pub WorkspacesAreClean : Type 0
WorkspacesAreClean = (w : List FileOf) → AreCompiled w → HasNoFault (WorkspaceFaults w)

-- Files that compile have tokens and trees.
abbrev pub CompiledAreRead : Type 0
CompiledAreRead = (w : List FileOf) → AreCompiled w → (reads : List ReadOf) × AreRead w reads

-- Files that compile have one list of descriptors.
abbrev pub DescribedOnce : Type 0
DescribedOnce = (w : List FileOf) (a b : List FileDesc)
    → AreCompiled w
    → AreDescribed w a
    → AreDescribed w b
    → a ≡ b

-- ---- one edit

-- An edit of files that compile changes them in one way, and leaves one list of files.
abbrev pub StepsOnce : Type 0
StepsOnce = (w a b : List FileOf) (e : Asked) (cs ds : List ChangeOf)
    → AreCompiled w
    → IsStep w e cs a
    → IsStep w e ds b
    → (cs ≡ ds) × (a ≡ b)

-- An accepted edit of files that compile can be written down.
abbrev pub AcceptedAreNotable : Type 0
AcceptedAreNotable = (w : List FileOf) (e : Asked) (entry : List ChangeOf) (after : List FileOf)
    → AreCompiled w
    → IsMappedStep w e entry after
    → IsNotable e

-- The descriptors under the edit's map are one list.
abbrev pub MappedOnce : Type 0
MappedOnce = (w : List FileOf) (e : Asked) (ds a b : List FileDesc)
    → AreCompiled w
    → AreMapped w e ds a
    → AreMapped w e ds b
    → a ≡ b

-- An edit is refused by one case, and with one place where one is answered; the least word of an
-- option that may stand for the symbol has one place.
abbrev pub RefusedOnce : Type 0
RefusedOnce = (w : List FileOf) (e : Asked)
    → AreCompiled w
    → ((m n : ℕ) → IsLeastCase w e m → IsLeastCase w e n → m ≡ n)
    × (((path file : Path) (offset other : ℕ)
    → IsCaseAt w e path offset → IsCaseAt w e file other → (path ≡ file) × (offset ≡ other))
    × ((path file : Path) (offset other : ℕ)
    → IsWordAt w e path offset → IsWordAt w e file other → (path ≡ file) × (offset ≡ other)))

-- Undoing what an edit answered leads back, and to no other files.
abbrev pub StepsAreUndone : Type 0
StepsAreUndone = (w after : List FileOf) (e : Asked) (cs : List ChangeOf)
    → AreCompiled w
    → IsStep w e cs after
    → IsUndo after cs w × ((b : List FileOf) → IsUndo after cs b → b ≡ w)

-- What an admissible edit leaves compiles, and to the old descriptors under the edit's map.
abbrev pub StepsCompile : Type 0
StepsCompile = (w after : List FileOf) (e : Asked) (cs : List ChangeOf)
    → AreCompiled w
    → IsStep w e cs after
    → IsMappedStep w e cs after

-- An admissible edit can be made: it changes something, its changes are an
-- entry, and what they leave compiles.
abbrev pub EditsAreMade : Type 0
EditsAreMade = (w : List FileOf) (e : Asked)
    → AreCompiled w
    → IsAdmissible w e
    → (cs : List ChangeOf)
    × AreChanges w e cs
    × IsEntry cs
    × (after : List FileOf)
    × IsPut w cs after
    × AreCompiled after

-- what an edit makes of full names: a rename its name map, each other edit leaves them
abbrev pub MapsNames : List FileOf → List ReadOf → Asked → (Name → Name) → Type 0
MapsNames files reads (rename name to) f = (t : Target) × IsNamed files reads name t
    × ((x : Name) → f x ≡ ren (name_map files reads t to) x)
MapsNames files reads (delete_field name) f = (x : Name) → f x ≡ x
MapsNames files reads (add_import file path) f = (x : Name) → f x ≡ x
MapsNames files reads (drop_import file path) f = (x : Name) → f x ≡ x

-- An accepted edit leaves options: each has the same path and value, its name means what the edit
-- makes of what it meant, and a reader who knows its words sees the same of the types that its
-- value may fill.
abbrev pub StepsLeaveOptions : Type 0
StepsLeaveOptions =
    (w after : List FileOf) (e : Asked) (cs : List ChangeOf) (reads later : List ReadOf)
    (ds new : List FileDesc) (f : Name → Name)
    → AreCompiled w
    → IsMappedStep w e cs after
    → AreRead w reads → AreRead after later
    → AreDescribed w ds → AreDescribed after new
    → MapsNames w reads e f
    → OptionsStay f w after reads later ds new

-- ---- runs

-- undoing what a run answered, last one first, leads back
abbrev pub RunsAreUndone : Type 0
RunsAreUndone =
    (w to : List FileOf) (es : List Asked) (given : List (Result (List ChangeOf) Refusal))
    → AreCompiled w
    → Run w es given to
    → Undone to (reverse (accepted given)) w

-- entries are undone to one list of files
abbrev pub UndoneOnce : Type 0
UndoneOnce = (w a b : List FileOf) (ss : List (List ChangeOf))
    → Undone w ss a
    → Undone w ss b
    → a ≡ b
