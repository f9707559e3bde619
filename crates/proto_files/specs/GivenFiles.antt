-- The files of a workspace: paths with the bytes that stand at them, and their language.
use Rattle.std.specs.Prelude.{ℕ, ◌≤◌, List, [], length, All, AllPairs, slice_index_or}
use Rattle.proto_base.specs.declared.profile.Profile.TheVariants as profile
pub use Rattle.proto_base.specs.GivenFiles.{FileOf, paths_of, file_of, file_of_as, files_of, files_of_as}
use Rattle.proto_files.specs.WorkspacePaths.{IsWorkspacePath, IsBefore}

-- what stands where there is no file
abbrev pub no_file : FileOf
no_file = record { path = []; bytes = []; profile = profile.Core }

-- the file at a place, counted from 0
abbrev pub file_at : List FileOf → ℕ → FileOf
file_at files place = slice_index_or files place no_file

-- files of a workspace: at most 4,096, each at a workspace path, each path before those behind it
pub record AreWorkspaceFiles (files : List FileOf) : Type 0 where
  pub few : length files ≤ 4096
  pub named : All (λ f. IsWorkspacePath f.path) files
  pub ordered : AllPairs (λ f g. IsBefore f.path g.path) files
