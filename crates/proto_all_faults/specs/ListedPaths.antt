-- The faults of paths in order, path by path.
use Rattle.std.specs.Prelude.{ℕ, suc, ◌==◌, Bool, not, List, [], ◌∷◌, ◌++◌, if◌then◌else◌}
use Rattle.proto_base.specs.declared.fault.FaultKind.{FaultKind}
use Rattle.proto_base.specs.declared.fault.FaultKind.TheVariants.{BadPath, DoublePath, TooManyFiles}
use Rattle.proto_base.specs.Texts.{Path}
use Rattle.proto_files.specs.Faults.{FaultAt}
use Rattle.proto_files.specs.FirstFault.{begins_with}
use Rattle.proto_files.specs.WorkspacePaths.{is_workspace_path}

-- a fault of a path
abbrev pub path_fault : FaultKind → Path → FaultAt
path_fault kind path = record { path = path; offset = 0; kind = kind }

-- the fault where this holds, and none where it does not
abbrev pub fault_if : Bool → FaultKind → Path → List FaultAt
fault_if holds kind path = if holds then path_fault kind path ∷ [] else []

-- the faults of the path at a place, before these paths, where `limit` files are the most
abbrev pub faults_at : ℕ → ℕ → Path → List Path → List FaultAt
faults_at place limit path rest =
    fault_if (not (is_workspace_path path)) BadPath path
    ++ (fault_if (begins_with rest path) DoublePath path
    ++ fault_if (place == limit) TooManyFiles path)

-- the faults of paths in order, the first of which is at `place`; a path that is given twice is
-- listed at each but its last
unfoldable pub path_faults_from : ℕ → ℕ → List Path → List FaultAt
path_faults_from place limit [] = []
path_faults_from place limit (path ∷ paths) =
    faults_at place limit path paths ++ path_faults_from (suc place) limit paths
