-- The first fault that a walk over paths in their order meets, with the place of its path.
use Rattle.std.specs.Prelude.{ℕ, ◌+◌, ◌==◌, Bool, false, List, [], ◌∷◌, Option, Some, None, if◌then◌else◌}
use Rattle.std.specs.Str.{bytes_eq}
use Rattle.proto_base.specs.declared.fault.FaultKind.{FaultKind}
use Rattle.proto_base.specs.declared.fault.FaultKind.TheVariants.{BadPath, DoublePath, TooManyFiles}
use Rattle.proto_base.specs.Texts.{Path}
use Rattle.proto_files.specs.WorkspacePaths.{is_workspace_path}

-- whether this path is the first of the paths
abbrev pub begins_with : List Path → Path → Bool
begins_with [] path = false
begins_with (next ∷ paths) path = bytes_eq next path

-- the fault of the path at a place, before these paths, where `limit` files are the most
unfoldable pub fault_before : ℕ → ℕ → Path → List Path → Option FaultKind
fault_before place limit path paths =
    if is_workspace_path path
    then (if begins_with paths path then Some DoublePath
    else (if place == limit then Some TooManyFiles else None))
    else Some BadPath

-- the fault of the path at the place, if it has one; else the first of those behind it
abbrev pub fault_or : ℕ → Option FaultKind → Option (ℕ × FaultKind) → Option (ℕ × FaultKind)
fault_or place None next = next
fault_or place (Some kind) next = Some (place, kind)

-- the first fault of paths in order, with the place of its path; the first path is at `place`
unfoldable pub first_fault : ℕ → ℕ → List Path → Option (ℕ × FaultKind)
first_fault place limit [] = None
first_fault place limit (path ∷ paths) =
    fault_or place (fault_before place limit path paths) (first_fault (place + 1) limit paths)
