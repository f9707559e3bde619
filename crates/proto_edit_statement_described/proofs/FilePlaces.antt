-- A path that is a file's, and its place (for the crates above).
use Rattle.std.proofs.Common.{◌≡◌, ℕ, ◌<◌, List, length, sym, subst}
use Rattle.proto_files.proofs.Common.{AreWorkspaceFiles, FileOf, file_at, IsWorkspacePath}
use Rattle.proto_edit_entries.proofs.TextPlaces.{file_found}
use Rattle.proto_edit_statement_laws.proofs.NamesCommon.{IsPlaceOf}
use Rattle.proto_files.specs.GivenFiles.{no_file}

module _ (files : List FileOf) (path : List ℕ) (k : ℕ) (is : IsPlaceOf files path k) where
  pub place_within : k < length files
  place_within = (file_found files path k is).0

  pub place_path : path ≡ (file_at files k).path
  place_path = sym (file_found files path k is).1

  pub place_named : AreWorkspaceFiles files → IsWorkspacePath path
  place_named w = subst IsWorkspacePath (sym place_path) (w.named k no_file place_within)
