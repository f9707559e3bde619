-- The findings of a workspace.
use Rattle.std.specs.Prelude.{ℕ, suc, Bool, List, [], ◌∷◌, ◌++◌, map}
use Rattle.proto_files.specs.GivenFiles.{FileOf, file_at, paths_of}
use Rattle.proto_files.specs.FilesRead.{ReadOf, read_at}
use Rattle.proto_names_imports.specs.Links.{names_of_files}
use Rattle.proto_lint_names.specs.Readings.{read_of_file}
use Rattle.proto_lint_names.specs.Placed.{Found}
use Rattle.proto_lint_names.specs.Listings.{found_in}
use Rattle.proto_lint_names.specs.Blocks.{file_blocks}
use Rattle.proto_lint_names.specs.BlockFinds.{all_messages, blocks_finds}
use Rattle.proto_lint.specs.Imports.{imports_finds}
use Rattle.proto_lint.specs.Packages.{head_finds}
use Rattle.proto_lint.specs.Heads.{head_of_file, heads}
pub use Rattle.proto_lint_names.specs.Listings.{FindingOf, IsListingOf}

-- what the rules find in a file, by its number: at its head, its imports and its blocks
abbrev pub file_finds : List Bool → List FileOf → List ReadOf → ℕ → List Found
file_finds rules files reads file =
    head_finds rules (heads files reads) (head_of_file files reads file)
    ++ (imports_finds rules (names_of_files files reads) (paths_of files)
    (read_of_file files reads file) file (read_at reads file).tree
    ++ blocks_finds rules (read_of_file files reads file) (all_messages files reads)
    (file_blocks (read_of_file files reads file) (read_at reads file).tree))

-- what the rules find in the files from this number on
abbrev pub findings_from : List Bool → List FileOf → List ReadOf → ℕ → List ReadOf → List FindingOf
findings_from rules files reads file [] = []
findings_from rules files reads file (r ∷ rs) =
    map (found_in (file_at files file).path) (file_finds rules files reads file)
    ++ findings_from rules files reads (suc file) rs

-- the findings of the chosen rules, file by file
abbrev pub findings : List Bool → List FileOf → List ReadOf → List FindingOf
findings rules files reads = findings_from rules files reads 0 reads
