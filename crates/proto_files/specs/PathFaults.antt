-- The faults of the paths of a workspace's files: no workspace path, a path given twice, too many
-- files.
use Rattle.std.specs.Prelude.{◌≡◌, ℕ, ◌<◌, List, length, count_by, Contains, IsPermutation, slice_index_or}
use Rattle.std.specs.Str.{bytes_eq}
use Rattle.proto_base.specs.declared.fault.FaultKind.{FaultKind}
use Rattle.proto_base.specs.declared.fault.FaultKind.TheVariants.{BadPath, DoublePath, TooManyFiles}
use Rattle.proto_base.specs.Texts.{Path}
use Rattle.proto_files.specs.WorkspacePaths.{IsWorkspacePath, IsInPathOrder}
use Rattle.proto_files.specs.Faults.{FaultAt}

-- the path stands at a place, counted from 0, of the paths in their order
pub record PathStandsAt (paths : List Path) (place : ℕ) (path : Path) : Type 0 where
  pub ordered : List Path
  pub same_paths : IsPermutation paths ordered
  pub in_order : IsInPathOrder ordered
  pub is_place : place < length ordered
  pub is_there : slice_index_or ordered place path ≡ path

-- what a fault of the paths says of its path, where a workspace has at most `limit` files
abbrev pub IsPathFault : ℕ → List Path → FaultKind → Path → Type 0
IsPathFault limit paths BadPath path = Contains paths path × (IsWorkspacePath path → ⊥)
IsPathFault limit paths DoublePath path = 1 < count_by (bytes_eq path) paths
IsPathFault limit paths TooManyFiles path = PathStandsAt paths limit path
IsPathFault limit paths _ path = ⊥

-- the faults of these paths, where a workspace has at most `limit` files: each at offset 0
abbrev pub PathFaults : ℕ → List Path → FaultAt → Type 0
PathFaults limit paths x = (x.offset ≡ 0) × IsPathFault limit paths x.kind x.path
